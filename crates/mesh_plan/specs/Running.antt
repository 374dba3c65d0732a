-- What a plan of a run says, and why there is none.
use Rattle.std.specs.Prelude.{◌≡◌, ℕ, ℤ, true, false, List, [], Some, None}
use Rattle.std.specs.List.{AllZip}
use Rattle.std.specs.declared.option.Option.{Option}
use Rattle.std.specs.Int.Signed.{lt_z}
use Rattle.mesh_base.specs.declared.snapshots.Env.{Env}
use Rattle.mesh_base.specs.declared.rules.plans.Plan.{Plan}
use Rattle.mesh_house_book.specs.declared.book.Book.{Book}
use Rattle.mesh_spec_model.specs.Closures.{closures}
use Rattle.mesh_spec_model.specs.Horizons.{Clock, Shows}
use Rattle.mesh_spec_changes.specs.listed.Listed.{listed}
use Rattle.mesh_spec_changes.specs.due.Dues.{dues}
use Rattle.mesh_spec_changes.specs.due.Plans.{planned}
use Rattle.mesh_spec_changes.specs.Planning.{IsRunPlan}
use Rattle.mesh_plan_due.specs.Long.{first_too_long}
use Rattle.mesh_category.specs.declared.versions.faults.PlanFault.{PlanFault}
use Rattle.mesh_category.specs.declared.versions.faults.PlanFault.TheVariants.{Model, Moment, EnvUnknown, EnvPending, Memory}
use Rattle.mesh_plan.specs.Entries.{IsRecorded}
use Rattle.mesh_plan.specs.Intervals.{IsTooLong}
use Rattle.mesh_plan.specs.Plans.{promised}

-- the plan of a run of an environment, which is there and isn't pending, at a moment
pub record IsRunOf (b : Book) (env : List ℕ) (e : Env) (t : ℤ) (p : Plan) : Type 0 where
  pub final : e.pending ≡ false
  pub ahead : lt_z t b.moment ≡ false
  pub env_is : p.env ≡ env
  pub moment_is : p.moment ≡ t
  pub runs : p.run ≡ true
  pub project_is : p.project.nodes ≡ listed b.snapshots e.list
  pub entries_are : AllZip (IsRecorded b) (listed b.snapshots e.list) p.entries
  pub gone : p.removed ≡ []
  pub steady : p.unsteady ≡ []
  pub short : (clock : Clock) → Shows clock t → first_too_long clock (closures (listed b.snapshots e.list)) ≡ None
  pub dues_are : (clock : Clock) → Shows clock t → p.dues ≡ dues clock b p.forgets (planned (listed b.snapshots e.list) p.entries)
  pub keeps : (clock : Clock) → Shows clock t → IsRunPlan clock b (promised p)

-- the same where the book has such an environment
abbrev pub IsRunIn : Book → List ℕ → Option Env → ℤ → Plan → Type 0
IsRunIn b env None t p = ⊥
IsRunIn b env (Some e) t p = IsRunOf b env e t p

-- why there is no plan of a run: the moment is behind; else there is no such environment; else it is pending; else a
-- model's schedule is too long
abbrev pub RefusesRunOf : Book → Env → ℤ → PlanFault → Type 0
RefusesRunOf b e t (Moment given kept) = (lt_z t b.moment ≡ true) × (given ≡ t) × (kept ≡ b.moment)
RefusesRunOf b e t (Model name kind) = (lt_z t b.moment ≡ false) × (e.pending ≡ false) × IsTooLong (listed b.snapshots e.list) t name kind
RefusesRunOf b e t EnvUnknown = ⊥
RefusesRunOf b e t EnvPending = (lt_z t b.moment ≡ false) × (e.pending ≡ true)
RefusesRunOf b e t Memory = Unit {0}

abbrev pub RefusesUnknown : Book → ℤ → PlanFault → Type 0
RefusesUnknown b t (Moment given kept) = (lt_z t b.moment ≡ true) × (given ≡ t) × (kept ≡ b.moment)
RefusesUnknown b t (Model name kind) = ⊥
RefusesUnknown b t EnvUnknown = lt_z t b.moment ≡ false
RefusesUnknown b t EnvPending = ⊥
RefusesUnknown b t Memory = Unit {0}

abbrev pub RefusesRun : Book → Option Env → ℤ → PlanFault → Type 0
RefusesRun b None t fault = RefusesUnknown b t fault
RefusesRun b (Some e) t fault = RefusesRunOf b e t fault
