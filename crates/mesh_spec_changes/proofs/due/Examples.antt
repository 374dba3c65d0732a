-- Small plans and what is due of them, worked out by hand: a daily model, and a FULL one over it.
use Rattle.std.proofs.Common.{◌≡◌, ℕ, ◌*◌, ◌+◌, ℤ, pos, true, List, [], ◌∷◌, refl}
use Rattle.std.specs.Prelude.{codes}
use Rattle.std.specs.declared.option.Option.{Option}
use Rattle.std.specs.declared.option.Option.TheVariants.{None, Some}
use Rattle.hex.specs.Hex.{encode_with}
use Rattle.mesh_base_values.specs.Crons.{CronSets}
use Rattle.mesh_base_values.specs.declared.kinds.Kind.{Kind}
use Rattle.mesh_base_values.specs.declared.kinds.Kind.TheVariants as kind
use Rattle.mesh_base_values.specs.declared.times.Bounds.{Bounds}
use Rattle.mesh_base_values.specs.declared.times.Unit.TheVariants as unit
use Rattle.mesh_base_values.specs.declared.values.Name.{Name}
use Rattle.mesh_base.specs.declared.definitions.Defn.TheVariants as defn
use Rattle.mesh_base.specs.declared.definitions.Own.{Own}
use Rattle.mesh_base.specs.declared.forgets.Forget.TheVariants.{Marks}
use Rattle.mesh_base.specs.declared.forgets.Restate.{Restate}
use Rattle.mesh_base.specs.declared.plans.Category.TheVariants.{Added, IndirectNonBreaking}
use Rattle.mesh_base.specs.declared.plans.Due.{Due}
use Rattle.mesh_base.specs.declared.plans.Due.TheVariants.{Whole, Unit as OfUnit}
use Rattle.mesh_base.specs.declared.snapshots.Snapshot.{Snapshot}
use Rattle.mesh_house_book.specs.declared.book.Book.{Book}
use Rattle.mesh_house_book.specs.declared.versions.Version.{Version}
use Rattle.mesh_spec_model.specs.Closures.{Closure, Model, Alone, With}
use Rattle.mesh_spec_model.specs.Horizons.{Clock}
use Rattle.mesh_house_book.specs.moves.Forgets.{forget_units}
use Rattle.mesh_spec_changes.specs.due.Dues.{again, due, dues}
use Rattle.mesh_spec_changes.specs.due.Parts.{unit_of}
use Rattle.mesh_spec_changes.specs.due.Plans.{Planned}
use Rattle.mesh_spec_changes.specs.due.Versions.{version}

abbrev every_day : CronSets
every_day = record { minute = 1; hour = 1; dom = 0xffff_fffe; month = 0x1ffe; dow = 0x7f; dom_star = true; dow_star = true }

abbrev shop : List ℕ → Name
shop model = record { schema = codes "shop"; model = model }

abbrev table : List ℕ → Name
table model = record { schema = codes "sqlmesh__shop"; model = model }

abbrev own : List ℕ → Kind → ℕ → Own
own model kind day = record { name = shop model; kind = kind; cron = every_day; unit = unit.Day; start = Some (pos day); sources = []; defn = defn.Sql (record { ctes = []; selects = [] }) }

abbrev day : ℕ → Bounds
day n = record { start = pos (n * 86_400); end = pos ((n + 1) * 86_400) }

abbrev days : ℕ → ℕ → Bounds
days n m = record { start = pos (n * 86_400); end = pos (m * 86_400) }

-- the last tick of each cron where a day has begun
abbrev at : ℕ → Clock
at n cron = pos (n * 86_400)

abbrev recorded : Name → List Bounds → Option (List ℤ) → Version
recorded object ranges marks = record { object = object; made = true; ranges = ranges; marks = marks }

abbrev with_versions : List Version → Book
with_versions versions = record { version = 2; moment = pos 0; snapshots = []; versions = versions; environments = [] }

-- a daily model from day 0 on, whose days 0 and 2 are recorded, on day 4
abbrev holey : Planned
holey = record { node = record { own = own (codes "daily") (kind.Incremental (codes "day") 0) 0; parents = []; rank = 0; fingerprint = 1 ∷ [] }; closure = Model (own (codes "daily") (kind.Incremental (codes "day") 0) 0) Alone; object = table (codes "d") }

abbrev with_holes : Book
with_holes = with_versions (recorded (table (codes "d")) (days 0 1 ∷ days 2 3 ∷ []) None ∷ [])

holes_are_due : due (at 4) with_holes [] holey ≡ unit_of (table (codes "d")) (day 1) ∷ unit_of (table (codes "d")) (day 3) ∷ []
holes_are_due = refl

what_is_forgotten_is_due :
    due (at 4) (forget_units with_holes (unit_of (table (codes "d")) (day 2) ∷ [])) [] holey
    ≡ unit_of (table (codes "d")) (day 1) ∷ unit_of (table (codes "d")) (day 2) ∷ unit_of (table (codes "d")) (day 3) ∷ []
what_is_forgotten_is_due = refl

-- a daily model from 2024-01-01 on, which is day 19,723, and a FULL one over it
abbrev daily : ℕ → Own
daily lookback = own (codes "daily") (kind.Incremental (codes "day") lookback) 19_723

abbrev totals : Own
totals = own (codes "totals") kind.Full 19_723

abbrev over_daily : ℕ → Closure
over_daily lookback = Model totals (With (Model (daily lookback) Alone) Alone)

-- their tables
abbrev shop_models : ℕ → Name → Name → List Planned
shop_models lookback d t =
    record { node = record { own = daily lookback; parents = []; rank = 0; fingerprint = 1 ∷ [] }; closure = Model (daily lookback) Alone; object = d }
    ∷ record { node = record { own = totals; parents = 0 ∷ []; rank = 1; fingerprint = 2 ∷ [] }; closure = over_daily lookback; object = t } ∷ []

abbrev d1 : Name
d1 = table (codes "d1")

abbrev t1 : Name
t1 = table (codes "t1")

-- what is recorded of two tables: the days from the first on up to another, and the marks of both models on a day
abbrev computed : ℕ → ℕ → Book
computed last marks_at = with_versions (recorded d1 (days 19_723 last ∷ []) None ∷ recorded t1 [] (Some (pos (marks_at * 86_400) ∷ pos (marks_at * 86_400) ∷ [])) ∷ [])

abbrev unit_due : ℕ → ℕ → Due
unit_due place n = OfUnit place (pos (n * 86_400)) (pos ((n + 1) * 86_400))

abbrev whole_due : ℕ → ℕ → Due
whole_due place n = Whole place (pos (n * 86_400) ∷ pos (n * 86_400) ∷ [])

-- nothing is due again at the same moment
nothing_is_due : dues (at 19_725) (computed 19_725 19_725) [] (shop_models 0 d1 t1) ≡ []
nothing_is_due = refl

-- a day later the new day is due, and the model over it
a_day_later : dues (at 19_726) (computed 19_725 19_725) [] (shop_models 0 d1 t1) ≡ unit_due 0 19_725 ∷ whole_due 1 19_726 ∷ []
a_day_later = refl

-- a model that looks back for one day has the day before computed again
looked_back : again (at 19_726) (computed 19_725 19_725) None (shop_models 1 d1 t1) ≡ unit_of d1 (day 19_724) ∷ []
looked_back = refl

the_day_before_is_due :
    dues (at 19_726) (computed 19_725 19_725) (again (at 19_726) (computed 19_725 19_725) None (shop_models 1 d1 t1)) (shop_models 1 d1 t1)
    ≡ unit_due 0 19_724 ∷ unit_due 0 19_725 ∷ whole_due 1 19_726 ∷ []
the_day_before_is_due = refl

-- the first day is named to be computed again, and with it the model over it
abbrev first_day : Restate
first_day = record { name = shop (codes "daily"); first = Some (pos 19_723); last = Some (pos 19_723) }

restated : again (at 19_725) (computed 19_725 19_725) (Some first_day) (shop_models 0 d1 t1) ≡ unit_of d1 (day 19_723) ∷ Marks t1 ∷ []
restated = refl

what_is_restated_is_due :
    dues (at 19_725) (computed 19_725 19_725) (again (at 19_725) (computed 19_725 19_725) (Some first_day) (shop_models 0 d1 t1)) (shop_models 0 d1 t1)
    ≡ unit_due 0 19_723 ∷ whole_due 1 19_725 ∷ []
what_is_restated_is_due = refl

-- a day later another environment has a new table for the daily model, and shares the other's
in_another_environment : dues (at 19_726) (computed 19_725 19_725) [] (shop_models 0 (table (codes "d2")) t1) ≡ unit_due 0 19_723 ∷ unit_due 0 19_724 ∷ unit_due 0 19_725 ∷ whole_due 1 19_726 ∷ []
in_another_environment = refl

-- once that is done, the first environment lacks the day alone
in_the_first_one : dues (at 19_726) (computed 19_725 19_726) [] (shop_models 0 d1 t1) ≡ unit_due 0 19_725 ∷ []
in_the_first_one = refl

-- a fingerprint, whose first digits are 0123456789abcdef
abbrev fingerprint : List ℕ
fingerprint = 1 ∷ 35 ∷ 69 ∷ 103 ∷ 137 ∷ 171 ∷ 205 ∷ 239 ∷ 0 ∷ 0 ∷ 0 ∷ 0 ∷ 0 ∷ 0 ∷ 0 ∷ 0 ∷ 0 ∷ 0 ∷ 0 ∷ 0 ∷ 0 ∷ 0 ∷ 0 ∷ 0 ∷ 0 ∷ 0 ∷ 0 ∷ 0 ∷ 0 ∷ 0 ∷ 0 ∷ 0 ∷ []

-- the snapshot that it is compared with
abbrev before : Snapshot
before = record { name = shop (codes "totals"); fingerprint = 2 ∷ []; own = totals; parents = []; rank = 1; object = t1; expires = pos 0 }

a_new_table : version [] None Added (record { own = totals; parents = []; rank = 1; fingerprint = fingerprint }) ≡ Some (table (codes "shop__totals__0123456789abcdef"))
unfolding encode_with
a_new_table = refl

the_old_table : version (before ∷ []) (Some before) IndirectNonBreaking (record { own = totals; parents = []; rank = 1; fingerprint = fingerprint }) ≡ Some t1
the_old_table = refl
