-- What a plan for an environment says, and why there is none.
use Rattle.std.specs.Prelude.{◌≡◌, ◌⊎◌, ℕ, ℤ, true, false, List, None}
use Rattle.std.specs.List.{All, flat_map}
use Rattle.std.specs.declared.option.Option.{Option}
use Rattle.std.specs.Int.Signed.{lt_z}
use Rattle.mesh_base_values.specs.declared.values.Name.{Name}
use Rattle.mesh_base_values.specs.declared.values.Pair.{Pair}
use Rattle.mesh_base.specs.declared.forgets.Restate.{Restate}
use Rattle.mesh_base.specs.declared.plans.Category.{Category}
use Rattle.mesh_base.specs.declared.plans.Entry.{Entry}
use Rattle.mesh_base.specs.declared.snapshots.Node.{Node}
use Rattle.mesh_base.specs.declared.snapshots.Ref.{Ref}
use Rattle.mesh_query_tokens.specs.declared.faults.FaultKind.{FaultKind}
use Rattle.mesh_base.specs.declared.rules.plans.Plan.{Plan}
use Rattle.mesh_house_book.specs.declared.book.Book.{Book}
use Rattle.mesh_spec_model.specs.Closures.{closures}
use Rattle.mesh_spec_model.specs.Horizons.{Clock, Shows}
use Rattle.mesh_category.specs.category.Stated.{HaveCategories}
use Rattle.mesh_lineage.specs.Unsteady.{unsteady}
use Rattle.mesh_spec_changes.specs.listed.Listed.{listed}
use Rattle.mesh_spec_changes.specs.due.Dues.{dues}
use Rattle.mesh_spec_changes.specs.due.Plans.{planned}
use Rattle.mesh_spec_changes.specs.Changes.{Plan as Promised}
use Rattle.mesh_spec_changes.specs.Planning.{IsPlan, compared_list}
use Rattle.mesh_plan_due.specs.Long.{first_too_long}
use Rattle.mesh_category.specs.declared.versions.faults.PlanFault.{PlanFault}
use Rattle.mesh_category.specs.declared.versions.faults.PlanFault.TheVariants.{Model, Moment, EnvUnknown, EnvPending, Memory}
use Rattle.mesh_category.specs.versions.Clashes.{IsAlone, IsFirstClash}
use Rattle.mesh_plan.specs.Entries.{AreEntries, gone_of}
use Rattle.mesh_plan.specs.Intervals.{IsTooLong}

-- the models that a project no longer has of a list, by name, each with the word of its kind
abbrev pub removed : Book → List Ref → List Node → List Pair
removed b base nodes = flat_map (gone_of b.snapshots nodes) base

-- a plan as the promise sees it
abbrev pub promised : Plan → Promised
promised p = record { env = p.env; moment = p.moment; models = planned p.project.nodes p.entries; forgets = p.forgets }

-- the plan of a project for an environment at a moment
pub record IsPlanOf (b : Book) (nodes : List Node) (env : List ℕ) (t : ℤ) (restate : Option Restate) (p : Plan) : Type 0 where
  pub ahead : lt_z t b.moment ≡ false
  pub env_is : p.env ≡ env
  pub moment_is : p.moment ≡ t
  pub runs : p.run ≡ false
  pub project_is : p.project.nodes ≡ nodes
  pub entries_are : AreEntries b (compared_list b env) nodes p.entries
  pub gone : p.removed ≡ removed b (compared_list b env) nodes
  pub unsteady_are : p.unsteady ≡ unsteady (closures nodes)
  pub short : (clock : Clock) → Shows clock t → first_too_long clock (closures nodes) ≡ None
  pub dues_are : (clock : Clock) → Shows clock t → p.dues ≡ dues clock b p.forgets (planned nodes p.entries)
  pub keeps : (clock : Clock) → Shows clock t → IsPlan clock b nodes restate (promised p)

-- the fingerprint of a model clashes
pub record Clashed (b : Book) (base : List Ref) (nodes : List Node) (name : Name) (kind : FaultKind) : Type 0 where
  pub categories : List Category
  pub have : HaveCategories (listed b.snapshots base) nodes categories
  pub first : IsFirstClash b.snapshots nodes base categories name kind

-- none does
pub record Unclashed (b : Book) (base : List Ref) (nodes : List Node) (entries : List Entry) : Type 0 where
  pub are : AreEntries b base nodes entries
  pub alone : All (IsAlone b.snapshots nodes) nodes

-- why models get no entries
abbrev pub RefusesEntries : Book → List Ref → List Node → PlanFault → Type 0
RefusesEntries b base nodes (Model name kind) = Clashed b base nodes name kind
RefusesEntries b base nodes (Moment given kept) = ⊥
RefusesEntries b base nodes EnvUnknown = ⊥
RefusesEntries b base nodes EnvPending = ⊥
RefusesEntries b base nodes Memory = Unit {0}

-- no fingerprint clashes, and a model's schedule is too long
pub record IsLong (b : Book) (base : List Ref) (nodes : List Node) (t : ℤ) (name : Name) (kind : FaultKind) : Type 0 where
  pub entries : List Entry
  pub unclashed : Unclashed b base nodes entries
  pub long : IsTooLong nodes t name kind

-- why there is no plan: the moment is behind, or else a fingerprint clashes, or else a schedule is too long
abbrev pub RefusesPlan : Book → List Ref → List Node → ℤ → PlanFault → Type 0
RefusesPlan b base nodes t (Moment given kept) = (lt_z t b.moment ≡ true) × (given ≡ t) × (kept ≡ b.moment)
RefusesPlan b base nodes t (Model name kind) = (lt_z t b.moment ≡ false) × (Clashed b base nodes name kind ⊎ IsLong b base nodes t name kind)
RefusesPlan b base nodes t EnvUnknown = ⊥
RefusesPlan b base nodes t EnvPending = ⊥
RefusesPlan b base nodes t Memory = Unit {0}
