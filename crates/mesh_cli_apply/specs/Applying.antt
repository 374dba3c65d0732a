-- What the commands that plan make and print, and why they are refused.
use Rattle.std.specs.Prelude.{◌≡◌, ◌⊎◌, ℕ, ℤ, List, ◌++◌, length, Some, Result, Ok, Err}
use Rattle.std.specs.declared.option.Option.{Option}
use Rattle.std.specs.declared.option.Option.TheVariants.{None}
use Rattle.mesh_base_values.specs.declared.values.Name.{Name}
use Rattle.mesh_base.specs.declared.forgets.Restate.{Restate}
use Rattle.mesh_base.specs.declared.snapshots.Node.{Node}
use Rattle.mesh_base.specs.declared.rules.plans.Plan.{Plan}
use Rattle.mesh_spec_model.specs.Horizons.{Clock, Shows}
use Rattle.mesh_house.specs.declared.world.Change.{Change}
use Rattle.mesh_house.specs.declared.world.World.{World}
use Rattle.mesh_house.specs.Step.{run}
use Rattle.mesh_spec_changes.specs.Commands.{Command, Apply, RunAll, changes}
use Rattle.mesh_cli_print.specs.faults.Lines.{name_text}
use Rattle.mesh_cli_print.specs.plans.PlanText.{plan_text}
use Rattle.mesh_plan.specs.Plans.{promised}
use Rattle.mesh_exec_works.specs.Works.{parts}
use Rattle.mesh_exec.specs.declared.faults.ExecFault.{ExecFault}
use Rattle.mesh_exec.specs.declared.faults.ExecFault.TheVariants as fault
use Rattle.mesh_exec.specs.declared.sources.Lack.{Lack}
use Rattle.mesh_exec.specs.Answers.{IsLostIn}
use Rattle.mesh_exec.specs.Executed.{executed, outline}
use Rattle.mesh_exec.specs.Sources.{first_lack}
use Rattle.mesh_cli_print.specs.printed.Reports.{applied_line, ran_line}
use Rattle.mesh_cli_print.specs.declared.printed.refusals.Refusal.{Refusal}
use Rattle.mesh_cli_print.specs.declared.printed.refusals.Refusal.TheVariants.{Model, Warehouse, Memory, ObjectMissing}
use Rattle.mesh_cli_apply.specs.Planning.{IsPlanned, IsRunPlanned, PlanRefused, RunRefused}

-- why the changes of a plan stopped, as a command tells it
abbrev pub of_exec : ExecFault → Refusal
of_exec (fault.Dangling object) = ObjectMissing object
of_exec (fault.Model name kind) = Model (name_text name) 0 kind
of_exec fault.Warehouse = Warehouse
of_exec fault.Memory = Memory

-- the changes that a command makes of a world, whichever clock shows the moment
abbrev pub AreOf : ℤ → Command → World → List Change → Type 0
AreOf t c w list = (clock : Clock) → Shows clock t → list ≡ changes clock c w

-- a source of a due model lacks something, and the first such is told
pub record IsLacking (p : Plan) (w : World) (r : Refusal) : Type 0 where
  pub lack : Lack
  pub first : first_lack w.sources (parts p) ≡ Some lack
  pub told : r ≡ Model (name_text lack.model) 0 lack.kind

-- no source lacks anything, and a due model reads an object that shows no rows in a world that the changes reach,
-- which is told
pub record IsStopped (p : Plan) (w : World) (r : Refusal) : Type 0 where
  pub whole : first_lack w.sources (parts p) ≡ None
  pub object : Name
  pub told : r ≡ ObjectMissing object
  pub made : List Change
  pub rest : List Change
  pub front : executed p w ≡ made ++ rest
  pub lost : IsLostIn p w (run w made) object

-- why the changes of a plan aren't all made
abbrev pub IsHeld : Plan → World → Refusal → Type 0
IsHeld p w r = IsLacking p w r ⊎ IsStopped p w r

-- a plan whose sources are there
abbrev pub IsReady : Plan → World → Type 0
IsReady p w = first_lack w.sources (parts p) ≡ None

-- the changes of a plan's models go to their end, since no object that one of them reads is missing on the way: there
-- are as many as the plan has without rows
abbrev pub GoesToItsEnd : Plan → World → Type 0
GoesToItsEnd p w = length (executed p w) ≡ length (outline p)

-- `plan` prints the plan
abbrev pub PlanGives : List Node → List ℕ → ℤ → Option Restate → World → Result (List ℕ) Refusal → Type 0
PlanGives nodes env t again w (Ok text) = (p : Plan) × IsPlanned w.book nodes env t again p × (text ≡ plan_text p)
PlanGives nodes env t again w (Err r) = PlanRefused w.book nodes env t again r

-- `apply` makes all changes of its plan
abbrev pub ApplyMakes : List Node → List ℕ → ℤ → Option Restate → World → List Change → Type 0
ApplyMakes nodes env t again w list = (p : Plan) × IsPlanned w.book nodes env t again p × IsReady p w × AreOf t (Apply (promised p)) w list

-- its text: the plan, and how many changes it took
pub record IsApplied (p : Plan) (env : List ℕ) (t : ℤ) (w : World) (text : List ℕ) : Type 0 where
  pub ready : IsReady p w
  pub whole : GoesToItsEnd p w
  pub list : List Change
  pub made : AreOf t (Apply (promised p)) w list
  pub is : text ≡ plan_text p ++ applied_line env (length list)

abbrev pub ApplyGives : List Node → List ℕ → ℤ → Option Restate → World → Result (List ℕ) Refusal → Type 0
ApplyGives nodes env t again w (Ok text) = (p : Plan) × IsPlanned w.book nodes env t again p × IsApplied p env t w text
ApplyGives nodes env t again w (Err r) = PlanRefused w.book nodes env t again r ⊎ ((p : Plan) × IsPlanned w.book nodes env t again p × IsHeld p w r)

-- `run` makes the changes of its plan
abbrev pub RunMakes : List ℕ → ℤ → World → List Change → Type 0
RunMakes env t w list = (p : Plan) × IsRunPlanned w.book env t p × IsReady p w × AreOf t (RunAll (promised p)) w list

pub record IsRan (p : Plan) (env : List ℕ) (t : ℤ) (w : World) (text : List ℕ) : Type 0 where
  pub ready : IsReady p w
  pub whole : GoesToItsEnd p w
  pub list : List Change
  pub made : AreOf t (RunAll (promised p)) w list
  pub is : text ≡ plan_text p ++ ran_line env (length list)

abbrev pub RunGives : List ℕ → ℤ → World → Result (List ℕ) Refusal → Type 0
RunGives env t w (Ok text) = (p : Plan) × IsRunPlanned w.book env t p × IsRan p env t w text
RunGives env t w (Err r) = RunRefused w.book env t r ⊎ ((p : Plan) × IsRunPlanned w.book env t p × IsHeld p w r)
