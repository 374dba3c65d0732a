-- The one list of changes that an apply, or a run, makes of a world.
use Rattle.std.specs.Prelude.{ℕ, ℤ, pos, ◌+ℤ◌, Bool, true, false, not, ◌&&◌, if◌then◌else◌, List, [], ◌∷◌, ◌++◌, map, Some, None}
use Rattle.std.specs.List.{filter, flat_map, list_any, slice_get}
use Rattle.std.specs.Option.{option_map, option_to_list}
use Rattle.std.specs.declared.option.Option.{Option}
use Rattle.std.specs.Ordering.{is_lt}
use Rattle.mesh_list.specs.Keyed.{placed}
use Rattle.mesh_base_values.specs.Names.{name_cmp}
use Rattle.mesh_base_values.specs.Order.{row_order}
use Rattle.mesh_base_values.specs.Picked.{same_text}
use Rattle.mesh_base_values.specs.declared.kinds.Kind.{Kind}
use Rattle.mesh_base_values.specs.declared.kinds.Kind.TheVariants.{Full, View, Seed, Incremental}
use Rattle.mesh_base_values.specs.declared.values.Cell.{Cell}
use Rattle.mesh_base_values.specs.declared.values.Name.{Name}
use Rattle.mesh_base_values.specs.declared.values.Pair.{Pair}
use Rattle.mesh_base.specs.Keys.{ref_name}
use Rattle.mesh_base.specs.Outputs.{columns_of}
use Rattle.mesh_base.specs.declared.forgets.Forget.{Forget}
use Rattle.mesh_base.specs.declared.forgets.Forget.TheVariants.{Range, Marks}
use Rattle.mesh_base.specs.declared.jobs.Input.{Input}
use Rattle.mesh_base.specs.declared.snapshots.Ref.{Ref}
use Rattle.mesh_base.specs.declared.snapshots.Snapshot.{Snapshot}
use Rattle.mesh_spec_model.specs.Horizons.{Clock}
use Rattle.mesh_spec_model.specs.Sources.{inputs}
use Rattle.mesh_spec_model.specs.Scratch.{no_bounds, defn_rows, piece_over, table_of}
use Rattle.mesh_house_book.specs.Changes.{previous_of}
use Rattle.mesh_house_book.specs.declared.book.Book.{Book}
use Rattle.mesh_house.specs.declared.world.World.{World}
use Rattle.mesh_house.specs.declared.world.Change.{Change}
use Rattle.mesh_house.specs.declared.world.Change.TheVariants.{Moment, PutSnapshot, ForgetUnits, MakeTable, MakeView, ReplaceRows, WriteRange, RecordRange, RecordMarks, SetPending, PointView, DropView, Finalize}
use Rattle.mesh_house.specs.Step.{run}
use Rattle.mesh_house.specs.World.{version_of}
use Rattle.mesh_spec_changes.specs.shown.Shown.{each_there, object_rows}
use Rattle.mesh_spec_changes.specs.due.Dues.{due}
use Rattle.mesh_spec_changes.specs.due.Marks.{marks}
use Rattle.mesh_spec_changes.specs.due.Parts.{same_name}
use Rattle.mesh_spec_changes.specs.due.Plans.{Planned, is_made}
use Rattle.mesh_spec_changes.specs.due.Versions.{node_ref}
use Rattle.mesh_spec_changes.specs.Environments.{prod, view_in, env_at, lifetime}

-- What is planned for an environment at a moment: its models by rank and name, and which parts of them are computed
-- again.
pub record Plan : Type 0 where
  pub env : List ℕ
  pub moment : ℤ
  pub models : List Planned
  pub forgets : List Forget

-- rows in ascending order
abbrev pub inserted : List Cell → List (List Cell) → List (List Cell)
inserted row [] = row ∷ []
inserted row (r ∷ rs) = if is_lt (row_order r row) then r ∷ inserted row rs else row ∷ r ∷ rs

-- rows by ascending order
abbrev pub ascending : List (List Cell) → List (List Cell)
ascending [] = []
ascending (row ∷ rows) = inserted row (ascending rows)

-- a model's parents in the plan
abbrev pub parents_in : List Planned → Planned → List Planned
parents_in all p = flat_map (λ i. option_to_list (slice_get all i)) p.node.parents

-- what a planned model is called in a book
abbrev pub planned_ref : Planned → Ref
planned_ref p = node_ref p.node

-- the snapshot of a planned model
abbrev pub snapshot_of : ℤ → List Planned → Planned → Snapshot
snapshot_of t all p = record {
  name = p.node.own.name;
  fingerprint = p.node.fingerprint;
  own = p.node.own;
  parents = map planned_ref (parents_in all p);
  rank = p.node.rank;
  object = p.object;
  expires = t +ℤ pos lifetime;
}

-- a model with the object that has its rows
abbrev pub target_of : Planned → Pair
target_of p = record { first = p.node.own.name; second = p.object }

-- a model as a table, with the rows that its object shows; none where it dangles
abbrev pub parent_table : World → Planned → Option Input
parent_table w p = option_map (table_of p.node.own) (object_rows w p.object)

-- the tables that a model reads: its sources, and its parents as their objects show them
abbrev pub tables_read : World → List Planned → Planned → Option (List Input)
tables_read w all p = option_map (inputs w.sources p.node.own) (each_there (map (parent_table w) (parents_in all p)))

-- what makes a model's object, where that isn't made; a view's is made again where it is due
abbrev pub makes : Bool → List Planned → Planned → Kind → Bool → List Change
makes made all p View is_due = if made && not is_due then [] else MakeView p.object (columns_of p.node.own) p.node.own (map target_of (parents_in all p)) ∷ []
makes made all p other is_due = if made then [] else MakeTable p.object (columns_of p.node.own) ∷ []

-- what fills one due part of it, over the tables that it reads
abbrev pub fill : Clock → Planned → Kind → List Input → Forget → List Change
fill clock p (Incremental time lookback) tables (Range object start end) =
    WriteRange object time start end (ascending (piece_over p.node.own tables (record { start = start; end = end }))) ∷ RecordRange object start end ∷ []
fill clock p (Incremental time lookback) tables (Marks object) = []
fill clock p View tables (Marks object) = RecordMarks object (marks clock p.closure) ∷ []
fill clock p kind tables (Marks object) = ReplaceRows object (ascending (defn_rows p.node.own.defn tables no_bounds)) ∷ RecordMarks object (marks clock p.closure) ∷ []
fill clock p kind tables (Range object start end) = []

-- the tables that have to be there; a seed and a view are filled without any
abbrev pub tables_for : World → List Planned → Planned → Kind → Option (List Input)
tables_for w all p Seed = Some []
tables_for w all p View = Some []
tables_for w all p Full = tables_read w all p
tables_for w all p (Incremental time lookback) = tables_read w all p

-- what fills the due parts; none where a parent dangles
abbrev pub fills : Clock → World → List Planned → Planned → List Forget → Option (List Change)
fills clock w all p [] = Some []
fills clock w all p (q ∷ qs) = option_map (λ tables. flat_map (fill clock p p.node.own.kind tables) (q ∷ qs)) (tables_for w all p p.node.own.kind)

-- one list, and then what comes in the world that it leaves; without it nothing more comes
abbrev pub followed : World → Option (List Change) → (World → List Change) → List Change
followed w None next = []
followed w (Some list) next = list ++ next (run w list)

-- there is one
abbrev pub is_any : List Forget → Bool
is_any [] = false
is_any (q ∷ qs) = true

-- The changes that make and fill the objects of some models, one model after another, each over the world that those
-- before it leave, and then some last ones. What is due is decided by the book before the command.
abbrev pub executes : Clock → Book → List Forget → List Planned → List Change → List Planned → World → List Change
executes clock b forgets all last [] w = last
executes clock b forgets all last (p ∷ ps) w =
    let parts = due clock b forgets p in
    let made = makes (is_made (version_of b p.object)) all p p.node.own.kind (is_any parts) in
    made ++ followed (run w made) (fills clock (run w made) all p parts) (executes clock b forgets all last ps)

-- what is computed again is forgotten first, by one change
abbrev pub forgetting : List Forget → List Change
forgetting [] = []
forgetting (q ∷ qs) = ForgetUnits (q ∷ qs) ∷ []

-- each model of a plan is put into the book
abbrev pub puts : ℤ → List Planned → List Change
puts t all = map (λ p. PutSnapshot (snapshot_of t all p)) all

-- the references of some models, by name
abbrev pub refs_by_name : List Planned → List Ref
refs_by_name [] = []
refs_by_name (p ∷ ps) = placed name_cmp ref_name (planned_ref p) (refs_by_name ps)

-- the name of a pair
abbrev pub pair_first : Pair → Name
pair_first q = q.first

-- the models with their objects, by name
abbrev pub objects_by_name : List Planned → List Pair
objects_by_name [] = []
objects_by_name (p ∷ ps) = placed name_cmp pair_first (target_of p) (objects_by_name ps)

-- an environment's view points at its object
abbrev pub points : List ℕ → Pair → Change
points env o = PointView (view_in env o.first) o.second

-- an environment's view goes
abbrev pub drops : List ℕ → Name → Change
drops env name = DropView (view_in env name)

-- the plan has a model of that name
abbrev pub is_listed : List Planned → Name → Bool
is_listed all name = list_any (λ (p : Planned). same_name p.node.own.name name) all

-- a name is its own key
abbrev pub name_itself : Name → Name
name_itself n = n

-- names by their order, each once
abbrev pub names_by_order : List Name → List Name
names_by_order [] = []
names_by_order (n ∷ ns) = placed name_cmp name_itself n (names_by_order ns)

-- the models that the environment had and the plan doesn't have
abbrev pub gone : Book → List ℕ → List Planned → List Name
gone b env all = filter (λ n. not (is_listed all n)) (names_by_order (map ref_name (previous_of (env_at b env))))

-- production stays, another environment for a week
abbrev pub expiry : List ℕ → ℤ → Option ℤ
expiry env t = if same_text env prod then None else Some (t +ℤ pos lifetime)

-- the environment gets its list and its views
abbrev pub promotes : Book → Plan → List Change
promotes b plan =
    SetPending plan.env (refs_by_name plan.models) (expiry plan.env plan.moment)
    ∷ (map (points plan.env) (objects_by_name plan.models) ++ (map (drops plan.env) (gone b plan.env plan.models) ++ Finalize plan.env ∷ []))

-- the moment, and the snapshots, and what is computed again is forgotten
abbrev pub opens : Plan → List Change
opens plan = Moment plan.moment ∷ (puts plan.moment plan.models ++ forgetting plan.forgets)

-- a run puts no snapshots
abbrev pub run_opens : Plan → List Change
run_opens plan = Moment plan.moment ∷ forgetting plan.forgets

-- the changes of an apply
abbrev pub applies : Clock → Plan → World → List Change
applies clock plan w = opens plan ++ executes clock w.book plan.forgets plan.models (promotes w.book plan) plan.models (run w (opens plan))

-- the changes of a run, which leaves the environment's list and views as they are
abbrev pub runs : Clock → Plan → World → List Change
runs clock plan w = run_opens plan ++ executes clock w.book plan.forgets plan.models [] plan.models (run w (run_opens plan))
