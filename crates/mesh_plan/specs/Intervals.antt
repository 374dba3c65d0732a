-- The first model whose schedule has too many units.
use Rattle.std.specs.Prelude.{◌≡◌, ℕ, ℤ, List, codes, map}
use Rattle.std.specs.List.{slice_get}
use Rattle.std.specs.declared.option.Option.{Option}
use Rattle.std.specs.declared.option.Option.TheVariants.{None, Some}
use Rattle.mesh_base_values.specs.declared.values.Name.{Name}
use Rattle.mesh_base.specs.declared.snapshots.Node.{Node}
use Rattle.mesh_query_tokens.specs.declared.faults.FaultKind.{FaultKind}
use Rattle.mesh_query_tokens.specs.declared.faults.FaultKind.TheVariants.{TooLarge}
use Rattle.mesh_spec_model.specs.Closures.{closures}
use Rattle.mesh_spec_model.specs.Horizons.{Clock, Shows, horizon}
use Rattle.mesh_plan_due.specs.Long.{first_too_long}
use Rattle.mesh_category.specs.declared.versions.faults.PlanFault.{PlanFault}
use Rattle.mesh_category.specs.declared.versions.faults.PlanFault.TheVariants.{Model, Moment, EnvUnknown, EnvPending, Memory}

-- what is said of a model that has more units than may be
abbrev pub too_many : FaultKind
too_many = TooLarge (codes "intervals") 200_000

-- it is told of the first such model, by rank and name
pub record IsTooLong (nodes : List Node) (t : ℤ) (name : Name) (kind : FaultKind) : Type 0 where
  pub at : ℕ
  pub model : Node
  pub is : slice_get nodes at ≡ Some model
  pub first : (clock : Clock) → Shows clock t → first_too_long clock (closures nodes) ≡ Some at
  pub named : name ≡ model.own.name
  pub said : kind ≡ too_many

-- the first model whose schedule is too long, by the horizons of all
abbrev pub IsLongest : List Node → List ℤ → Option Node → Type 0
IsLongest nodes horizons None = (clock : Clock) → horizons ≡ map (horizon clock) (closures nodes) → first_too_long clock (closures nodes) ≡ None
IsLongest nodes horizons (Some n) =
    (at : ℕ) × (slice_get nodes at ≡ Some n) × ((clock : Clock) → horizons ≡ map (horizon clock) (closures nodes) → first_too_long clock (closures nodes) ≡ Some at)

-- why the units of a project aren't listed
abbrev pub RefusesUnits : List Node → ℤ → PlanFault → Type 0
RefusesUnits nodes t (Model name kind) = IsTooLong nodes t name kind
RefusesUnits nodes t (Moment given kept) = ⊥
RefusesUnits nodes t EnvUnknown = ⊥
RefusesUnits nodes t EnvPending = ⊥
RefusesUnits nodes t Memory = Unit {0}
