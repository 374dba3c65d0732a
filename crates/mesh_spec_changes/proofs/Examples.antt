-- Small commands and how many changes they make, worked out by hand.
use Rattle.std.proofs.Common.{◌≡◌, ℕ, ◌*◌, pos, List, [], ◌∷◌, length, map, take, true, refl}
use Rattle.std.specs.Prelude.{codes}
use Rattle.std.specs.declared.option.Option.TheVariants.{None, Some}
use Rattle.mesh_base_values.specs.Crons.{CronSets}
use Rattle.mesh_base_values.specs.declared.kinds.Kind.{Kind}
use Rattle.mesh_base_values.specs.declared.kinds.Kind.TheVariants as kind
use Rattle.mesh_base_values.specs.declared.times.Unit.TheVariants as unit
use Rattle.mesh_base_values.specs.declared.values.Name.{Name}
use Rattle.mesh_base.specs.declared.definitions.Defn.{Defn}
use Rattle.mesh_base.specs.declared.definitions.Defn.TheVariants as defn
use Rattle.mesh_base.specs.declared.definitions.Own.{Own}
use Rattle.mesh_base.specs.declared.forgets.Forget.{Forget}
use Rattle.mesh_base.specs.declared.forgets.Restate.{Restate}
use Rattle.mesh_spec_model.specs.Closures.{Closure, Model, Alone, With}
use Rattle.mesh_spec_model.specs.Horizons.{Clock}
use Rattle.mesh_house.specs.declared.world.Change.{Change}
use Rattle.mesh_house.specs.declared.world.Change.TheVariants as c
use Rattle.mesh_house.specs.declared.world.World.{World}
use Rattle.mesh_house.specs.Step.{run, step}
use Rattle.mesh_house.specs.World.{empty_world}
use Rattle.mesh_spec_changes.specs.due.Dues.{again, dues}
use Rattle.mesh_spec_changes.specs.due.Plans.{Planned}
use Rattle.mesh_spec_changes.specs.Changes.{Plan, applies, runs}
use Rattle.mesh_spec_changes.specs.Environments.{prod}
use Rattle.mesh_spec_changes.specs.Kept.{sweeps}

abbrev every_day : CronSets
every_day = record { minute = 1; hour = 1; dom = 0xffff_fffe; month = 0x1ffe; dow = 0x7f; dom_star = true; dow_star = true }

abbrev shop : List ℕ → Name
shop model = record { schema = codes "shop"; model = model }

abbrev table : List ℕ → Name
table model = record { schema = codes "sqlmesh__shop"; model = model }

abbrev query : Defn
query = defn.Sql (record { ctes = []; selects = [] })

abbrev own : List ℕ → Kind → ℕ → Defn → Own
own model kind day d = record { name = shop model; kind = kind; cron = every_day; unit = unit.Day; start = Some (pos day); sources = []; defn = d }

-- the last tick of each cron where a day has begun
abbrev at : ℕ → Clock
at n cron = pos (n * 86_400)

abbrev plan : List ℕ → ℕ → List Planned → List Forget → Plan
plan env day models forgets = record { env = env; moment = pos (day * 86_400); models = models; forgets = forgets }

-- a model of a plan, over those at these places
abbrev model : Closure → Own → List ℕ → ℕ → ℕ → List ℕ → Planned
model c o parents rank fingerprint object = record { node = record { own = o; parents = parents; rank = rank; fingerprint = fingerprint ∷ [] }; closure = c; object = table object }

-- a seed, a daily model over it from 2020-01-01 on, which is day 18,262, and a FULL one over that, on 2020-01-08
abbrev seed : Own
seed = own (codes "seed") kind.Seed 18_262 (defn.Seed [] [])

abbrev events : Own
events = own (codes "events") (kind.Incremental (codes "day") 0) 18_262 query

abbrev counts : Own
counts = own (codes "counts") kind.Full 18_262 query

abbrev seed_closure : Closure
seed_closure = Model seed Alone

abbrev events_closure : Closure
events_closure = Model events (With seed_closure Alone)

abbrev starter : List Planned
starter =
    model seed_closure seed [] 0 1 (codes "s") ∷ model events_closure events (0 ∷ []) 1 2 (codes "e")
    ∷ model (Model counts (With events_closure Alone)) counts (1 ∷ []) 2 3 (codes "c") ∷ []

abbrev started : World
started = run empty_world (applies (at 18_269) (plan prod 18_269 starter []) empty_world)

-- a moment, three snapshots, three for the seed's table, 1 + 14 for the daily one, three for the FULL one, and five to
-- promote them
starter_applied : length (applies (at 18_269) (plan prod 18_269 starter []) empty_world) ≡ 30
starter_applied = refl

-- each kind of change by a letter: moment, snapshot, table, view, rows, marks, range, record, pending, pointed,
-- finalized
abbrev letter : Change → ℕ
letter (c.Moment t) = 109
letter (c.PutSnapshot s) = 115
letter (c.MakeTable object columns) = 116
letter (c.MakeView object columns own targets) = 118
letter (c.ReplaceRows object rows) = 114
letter (c.RecordMarks object marks) = 107
letter (c.WriteRange object time start end rows) = 119
letter (c.RecordRange object start end) = 100
letter (c.SetPending env list expires) = 112
letter (c.PointView view target) = 105
letter (c.Finalize env) = 102
letter other = 63

abbrev letters : List Change → List ℕ
letters changes = map letter changes

starter_changes : letters (applies (at 18_269) (plan prod 18_269 starter []) empty_world) ≡ codes "mssstrktwdwdwdwdwdwdwdtrkpiiif"
starter_changes = refl

-- then nothing is due
starter_applied_again : length (applies (at 18_269) (plan prod 18_269 starter []) started) ≡ 9
starter_applied_again = refl

-- a day later there is one more unit, and the FULL model
starter_run : length (runs (at 18_270) (plan prod 18_270 starter []) started) ≡ 5
starter_run = refl

-- a project without models
nothing_applied : length (applies (at 18_269) (plan prod 18_269 [] []) empty_world) ≡ 3
nothing_applied = refl

-- a daily model from 2024-01-01 on, which is day 19,723, that looks so far back, and a FULL one over it
abbrev daily : ℕ → Own
daily lookback = own (codes "daily") (kind.Incremental (codes "day") lookback) 19_723 query

abbrev totals : Own
totals = own (codes "totals") kind.Full 19_723 query

-- at these fingerprints, with these tables
abbrev models : ℕ → ℕ → ℕ → List ℕ → List ℕ → List Planned
models lookback f g d t =
    model (Model (daily lookback) Alone) (daily lookback) [] 0 f d
    ∷ model (Model totals (With (Model (daily lookback) Alone) Alone)) totals (0 ∷ []) 1 g t ∷ []

abbrev old : List Planned
old = models 0 1 2 (codes "d1") (codes "t1")

abbrev first_list : List Change
first_list = applies (at 19_725) (plan prod 19_725 old []) empty_world

abbrev applied : World
applied = run empty_world first_list

shop_applied : length first_list ≡ 15
shop_applied = refl

-- the first command stopped before the first unit was recorded, which was the sixth change
after_a_stop : length (applies (at 19_725) (plan prod 19_725 old []) (run empty_world (take 5 first_list))) ≡ 14
after_a_stop = refl

-- another environment where the daily model has a new table, and the other keeps its own under a new fingerprint
abbrev new : List Planned
new = models 0 3 4 (codes "d2") (codes "t1")

abbrev dev_list : List Change
dev_list = applies (at 19_725) (plan (codes "dev") 19_725 new []) applied

in_dev : length dev_list ≡ 12
in_dev = refl

in_dev_changes : letters dev_list ≡ codes "msstwdwdpiif"
in_dev_changes = refl

-- the new models come into production, and eight days later the environment, the old snapshots and the old table go
abbrev promoted : World
promoted = run (run applied dev_list) (applies (at 19_725) (plan prod 19_725 new []) (run applied dev_list))

swept : length (sweeps promoted.book (pos (19_733 * 86_400))) ≡ 9
swept = refl

-- an environment that is invalidated goes at once, with its two views
invalidated : length (sweeps (step (run applied dev_list) (c.Expire (codes "dev"))).book (pos (19_725 * 86_400))) ≡ 5
invalidated = refl

-- the first day is computed again, and with it the model over it
abbrev first_day : Restate
first_day = record { name = shop (codes "daily"); first = Some (pos 19_723); last = Some (pos 19_723) }

abbrev restating : List Change
restating = applies (at 19_725) (plan prod 19_725 old (again (at 19_725) applied.book (Some first_day) old)) applied

restated : length restating ≡ 12
restated = refl

-- that stopped once both were forgotten, and then they are due
after_forgetting : length (applies (at 19_725) (plan prod 19_725 old []) (run applied (take 4 restating))) ≡ 11
after_forgetting = refl

without_restating : length (applies (at 19_725) (plan prod 19_725 old []) applied) ≡ 7
without_restating = refl

-- a run of a model that looks back for a day
abbrev looking_back : List Planned
looking_back = models 1 1 2 (codes "d1") (codes "t1")

abbrev looked_back : World
looked_back = run empty_world (applies (at 19_725) (plan prod 19_725 looking_back []) empty_world)

run_that_looks_back : length (runs (at 19_726) (plan prod 19_726 looking_back (again (at 19_726) looked_back.book None looking_back)) looked_back) ≡ 8
run_that_looks_back = refl

-- a view of the daily model, and a FULL one over the view
abbrev recent : Own
recent = own (codes "recent") kind.View 19_723 query

abbrev sums : Own
sums = own (codes "sums") kind.Full 19_723 query

abbrev recent_closure : Closure
recent_closure = Model recent (With (Model (daily 0) Alone) Alone)

abbrev viewed : ℕ → ℕ → ℕ → List ℕ → List ℕ → List Planned
viewed f g h d r =
    model (Model (daily 0) Alone) (daily 0) [] 0 f d ∷ model recent_closure recent (0 ∷ []) 1 g r
    ∷ model (Model sums (With recent_closure Alone)) sums (1 ∷ []) 2 h (codes "s1") ∷ []

abbrev with_view : World
with_view = run empty_world (applies (at 19_725) (plan prod 19_725 (viewed 1 2 3 (codes "d1") (codes "r1")) []) empty_world)

through_a_view : letters (applies (at 19_725) (plan prod 19_725 (viewed 1 2 3 (codes "d1") (codes "r1")) []) empty_world) ≡ codes "mssstwdwdvktrkpiiif"
through_a_view = refl

-- the daily model gains a column: it has a new table and the view a new query, and the FULL one keeps its table
abbrev widened : List Change
widened = applies (at 19_725) (plan prod 19_725 (viewed 4 5 6 (codes "d2") (codes "r2")) []) with_view

past_a_view : letters widened ≡ codes "mssstwdwdvkpiiif"
past_a_view = refl

due_past_a_view : length (dues (at 19_725) with_view.book [] (viewed 4 5 6 (codes "d2") (codes "r2"))) ≡ 3
due_past_a_view = refl

-- a day later the daily model has one more unit, and the FULL one behind the view is due
past_a_view_run : letters (runs (at 19_726) (plan prod 19_726 (viewed 4 5 6 (codes "d2") (codes "r2")) []) (run with_view widened)) ≡ codes "mwdrk"
past_a_view_run = refl
