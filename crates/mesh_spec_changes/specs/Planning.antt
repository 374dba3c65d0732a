-- The plan for an environment: its models, where each has its rows, and what is computed again.
use Rattle.std.specs.Prelude.{◌≡◌, ℕ, List, [], map, Some}
use Rattle.std.specs.List.{AllByRecursion}
use Rattle.std.specs.Option.{option_map, option_and_then}
use Rattle.std.specs.declared.option.Option.{Option}
use Rattle.std.specs.declared.option.Option.TheVariants.{None}
use Rattle.mesh_list.specs.Keyed.{found}
use Rattle.mesh_base_values.specs.Names.{name_cmp}
use Rattle.mesh_base_values.specs.declared.values.Name.{Name}
use Rattle.mesh_base.specs.Keys.{ref_name}
use Rattle.mesh_base.specs.declared.forgets.Restate.{Restate}
use Rattle.mesh_base.specs.declared.plans.Category.{Category}
use Rattle.mesh_base.specs.declared.snapshots.Env.{Env}
use Rattle.mesh_base.specs.declared.snapshots.Node.{Node}
use Rattle.mesh_base.specs.declared.snapshots.Ref.{Ref}
use Rattle.mesh_base.specs.declared.snapshots.Snapshot.{Snapshot}
use Rattle.mesh_house_book.specs.declared.book.Book.{Book}
use Rattle.mesh_house_book.specs.WellFormed.{snapshot_at}
use Rattle.mesh_spec_model.specs.Closures.{closures}
use Rattle.mesh_spec_model.specs.Horizons.{Clock}
use Rattle.mesh_spec_changes.specs.listed.Closing.{closing, IsSnapshot}
use Rattle.mesh_spec_changes.specs.listed.Listed.{listed}
use Rattle.mesh_spec_changes.specs.reuse.Categories.{Stated, HasCategory}
use Rattle.mesh_spec_changes.specs.due.Dues.{again}
use Rattle.mesh_spec_changes.specs.due.Plans.{Planned}
use Rattle.mesh_spec_changes.specs.due.Versions.{node_ref, version}
use Rattle.mesh_spec_changes.specs.Changes.{Plan, parents_in, planned_ref}
use Rattle.mesh_spec_changes.specs.Environments.{prod, env_at}

-- the list that a project is compared with: the environment's, else production's, else none
abbrev pub list_of : Option Env → List Ref → List Ref
list_of None other = other
list_of (Some e) other = e.list

-- what a plan compares with: the environment's list, or prod's where there is no such environment
abbrev pub compared_list : Book → List ℕ → List Ref
compared_list b env = list_of (env_at b env) (list_of (env_at b prod) [])

-- the snapshot that a model is compared with
abbrev pub compared : Book → List ℕ → Name → Option Snapshot
compared b env name = option_and_then (snapshot_at b.snapshots) (found name_cmp ref_name name (compared_list b env))

-- a recorded snapshot beside all that it stands on
abbrev pub stated : Book → Snapshot → Stated
stated b s = record { fingerprint = s.fingerprint; closure = closing b.snapshots s }

-- a planned model beside all that it stands on
abbrev pub stated_new : Planned → Stated
stated_new p = record { fingerprint = p.node.fingerprint; closure = p.closure }

-- a model's object goes by its category
pub record HasObject (b : Book) (env : List ℕ) (p : Planned) : Type 0 where
  pub category : Category
  pub is : HasCategory (option_map (stated b) (compared b env p.node.own.name)) (stated_new p) category
  pub object : version b.snapshots (compared b env p.node.own.name) category p.node ≡ Some p.object

-- a fingerprint stands for one definition with one list of parents, in the book and in the plan
pub record HasNoClash (b : Book) (models : List Planned) (p : Planned) : Type 0 where
  pub stored : (s : Snapshot) → IsSnapshot b.snapshots s → s.fingerprint ≡ p.node.fingerprint → (s.own ≡ p.node.own) × (s.parents ≡ map planned_ref (parents_in models p))
  pub given : AllByRecursion (λ (q : Planned). q.node.fingerprint ≡ p.node.fingerprint → (q.node.own ≡ p.node.own) × (map planned_ref (parents_in models q) ≡ map planned_ref (parents_in models p))) models

-- the plan of a project's nodes
pub record IsPlan (clock : Clock) (b : Book) (nodes : List Node) (restate : Option Restate) (plan : Plan) : Type 0 where
  pub models : map (λ (p : Planned). p.node) plan.models ≡ nodes
  pub closed : map (λ (p : Planned). p.closure) plan.models ≡ closures nodes
  pub objects : AllByRecursion (HasObject b plan.env) plan.models
  pub clashes : AllByRecursion (HasNoClash b plan.models) plan.models
  pub forgets : plan.forgets ≡ again clock b restate plan.models

-- a model is that of a snapshot of the book
pub record IsKept (b : Book) (p : Planned) : Type 0 where
  pub snapshot : Snapshot
  pub known : snapshot_at b.snapshots (node_ref p.node) ≡ Some snapshot
  pub own : snapshot.own ≡ p.node.own
  pub rank : snapshot.rank ≡ p.node.rank
  pub object : snapshot.object ≡ p.object
  pub closure : closing b.snapshots snapshot ≡ p.closure

-- the plan of a run: the models of the environment's list, with what is looked back for
pub record IsRunPlan (clock : Clock) (b : Book) (plan : Plan) : Type 0 where
  pub env : Env
  pub known : env_at b plan.env ≡ Some env
  pub nodes : map (λ (p : Planned). p.node) plan.models ≡ listed b.snapshots env.list
  pub closed : map (λ (p : Planned). p.closure) plan.models ≡ closures (listed b.snapshots env.list)
  pub models : AllByRecursion (IsKept b) plan.models
  pub forgets : plan.forgets ≡ again clock b None plan.models
