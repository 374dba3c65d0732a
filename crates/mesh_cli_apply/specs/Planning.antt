-- The plan of a command in a book, and why there is none.
use Rattle.std.specs.Prelude.{◌≡◌, ◌⊎◌, ℕ, ℤ, Bool, true, false, List, codes}
use Rattle.std.specs.List.{list_any}
use Rattle.std.specs.declared.option.Option.{Option}
use Rattle.std.specs.declared.option.Option.TheVariants.{None, Some}
use Rattle.mesh_base_values.specs.declared.values.Name.{Name}
use Rattle.mesh_base.specs.declared.forgets.Restate.{Restate}
use Rattle.mesh_base.specs.declared.snapshots.Node.{Node}
use Rattle.mesh_query_tokens.specs.declared.faults.FaultKind.TheVariants.{UnknownRelation}
use Rattle.mesh_base.specs.rules.Proper.{is_proper}
use Rattle.mesh_base.specs.declared.rules.plans.Plan.{Plan}
use Rattle.mesh_house_book.specs.declared.book.Book.{Book}
use Rattle.mesh_spec_changes.specs.due.Parts.{same_name}
use Rattle.mesh_spec_changes.specs.Commands.{is_present}
use Rattle.mesh_spec_changes.specs.Environments.{env_at}
use Rattle.mesh_spec_changes.specs.Planning.{compared_list}
use Rattle.mesh_cli_print.specs.faults.Lines.{name_text}
use Rattle.mesh_plan.specs.Plans.{IsPlanOf, RefusesPlan}
use Rattle.mesh_plan.specs.Running.{IsRunIn, RefusesRun}
use Rattle.mesh_category.specs.declared.versions.faults.PlanFault.{PlanFault}
use Rattle.mesh_category.specs.declared.versions.faults.PlanFault.TheVariants as fault
use Rattle.mesh_cli_print.specs.declared.printed.refusals.Refusal.{Refusal}
use Rattle.mesh_cli_print.specs.declared.printed.refusals.Refusal.TheVariants.{Model, Memory, MomentBehind, EnvUnknown, EnvPending}
use Rattle.mesh_cli_answer.specs.Present.{IsNotPresent}

-- Why there is no plan, as a command tells it. A fault of a model has the model's name in the place of a file's.
abbrev pub of_plan : List ℕ → PlanFault → Refusal
of_plan env (fault.Model name kind) = Model (name_text name) 0 kind
of_plan env (fault.Moment given kept) = MomentBehind given kept
of_plan env fault.EnvUnknown = EnvUnknown env
of_plan env fault.EnvPending = EnvPending env
of_plan env fault.Memory = Memory

-- the model that is to be computed again is one of the project, where one is named
abbrev pub has_named : List Node → Option Restate → Bool
has_named nodes None = true
has_named nodes (Some again) = list_any (λ (n : Node). same_name n.own.name again.name) nodes

-- a project has no model of this name, in the words of a fault of no one file
abbrev pub no_model : Name → Refusal
no_model name = Model (codes "-") 0 (UnknownRelation (name_text name))

-- the model that is to be computed again is none of the project, which is told
pub record IsStray (nodes : List Node) (again : Option Restate) (r : Refusal) : Type 0 where
  pub restate : Restate
  pub asked : again ≡ Some restate
  pub unnamed : has_named nodes again ≡ false
  pub told : r ≡ no_model restate.name

-- the plan of a proper project for an environment, by a book that is as it has to be
pub record IsPlanned (b : Book) (nodes : List Node) (env : List ℕ) (t : ℤ) (again : Option Restate) (p : Plan) : Type 0 where
  pub present : is_present b ≡ true
  pub proper : is_proper nodes ≡ true
  pub plan : IsPlanOf b nodes env t again p
  pub named : has_named nodes again ≡ true

-- a fault of the plan is told
pub record IsUnplanned (b : Book) (nodes : List Node) (env : List ℕ) (t : ℤ) (r : Refusal) : Type 0 where
  pub present : is_present b ≡ true
  pub why : PlanFault
  pub stands : RefusesPlan b (compared_list b env) nodes t why
  pub told : r ≡ of_plan env why

-- there is a plan, and the model that is to be computed again is none of the project, which is told
pub record IsUnnamed (b : Book) (nodes : List Node) (env : List ℕ) (t : ℤ) (again : Option Restate) (r : Refusal) : Type 0 where
  pub present : is_present b ≡ true
  pub plan : Plan
  pub planned : IsPlanOf b nodes env t again plan
  pub stray : IsStray nodes again r

-- why nothing is planned of a project for an environment
abbrev pub PlanRefused : Book → List Node → List ℕ → ℤ → Option Restate → Refusal → Type 0
PlanRefused b nodes env t again r = IsNotPresent b r ⊎ (IsUnplanned b nodes env t r ⊎ IsUnnamed b nodes env t again r)

-- the plan of a run, by such a book
pub record IsRunPlanned (b : Book) (env : List ℕ) (t : ℤ) (p : Plan) : Type 0 where
  pub present : is_present b ≡ true
  pub plan : IsRunIn b env (env_at b env) t p

-- a fault of it is told
pub record IsRunUnplanned (b : Book) (env : List ℕ) (t : ℤ) (r : Refusal) : Type 0 where
  pub present : is_present b ≡ true
  pub why : PlanFault
  pub stands : RefusesRun b (env_at b env) t why
  pub told : r ≡ of_plan env why

-- why nothing is planned of a run
abbrev pub RunRefused : Book → List ℕ → ℤ → Refusal → Type 0
RunRefused b env t r = IsNotPresent b r ⊎ IsRunUnplanned b env t r
