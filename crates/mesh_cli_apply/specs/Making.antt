-- What is left of a house once the changes of a plan were to be made.
use Rattle.std.specs.Prelude.{◌≡◌, ◌⊎◌, ℕ, ◌+◌, ◌≤◌, true, false, List, length, Result, Ok, Err, IfErr, IsErrOf}
use Rattle.mesh_list.specs.Counts.{Rose}
use Rattle.mesh_base.specs.declared.jobs.Done.{Done}
use Rattle.mesh_base.specs.declared.rules.plans.Plan.{Plan}
use Rattle.mesh_house_book.specs.declared.book.Book.{Book}
use Rattle.mesh_house.specs.declared.house.WhFail.{WhFail}
use Rattle.mesh_house.specs.declared.world.Change.{Change}
use Rattle.mesh_house.specs.declared.world.World.{World}
use Rattle.mesh_house.specs.House.{Told}
use Rattle.mesh_house.specs.Runs.{IsPrefixRun, IsRun, Makes, Ran}
use Rattle.mesh_layer.specs.Shows.{Tells}
use Rattle.mesh_spec_changes.specs.Commands.{Command}
use Rattle.mesh_exec.specs.Answers.{Executes}
use Rattle.mesh_exec.specs.declared.faults.ExecFault.{ExecFault}
use Rattle.mesh_cli_print.specs.declared.printed.refusals.Refusal.{Refusal}
use Rattle.mesh_cli_print.specs.declared.printed.refusals.Refusal.TheVariants.{Input, Memory, Warehouse}
use Rattle.mesh_cli_answer.specs.Answers.{IsAlone, as_refusal, is_early, is_fault}
use Rattle.mesh_cli_apply.specs.Applying.{AreOf, GoesToItsEnd, IsHeld, IsReady, of_exec}

-- all changes of a command were made, and so many are told; where it is refused, nothing or a prefix of them
abbrev pub IsWhole : Plan → Command → World → Told → Told → Result ℕ Refusal → Type 0
IsWhole p c w old new (Ok n) = IsReady p w × GoesToItsEnd p w × ((list : List Change) × AreOf p.moment c w list × IsRun list w old.calls new × (n ≡ length list))
IsWhole p c w old new (Err r) = IsAlone old new ⊎ (IsReady p w × ((list : List Change) × AreOf p.moment c w list × IsPrefixRun list w old.calls new))

-- A call that is to make the changes of a command with this plan, which was made of this book.
pub record MakesAll (p : Plan) (c : Command) (b : Book) (old new : Told) (result : Result ℕ Refusal) : Type 0 where
  pub faults : old.faults ≤ new.faults
  pub failed : IsErrOf result Warehouse → Rose old.faults new.faults
  pub inside : IsErrOf result Input → ⊥
  pub early : IfErr result (λ r. is_early r ≡ true → IsAlone old new)
  pub made : (w : World) → Tells old w → w.book ≡ b → IsWhole p c w old new result
  pub given : IfErr result (λ r. is_fault r ≡ false → (w : World) → Tells old w → w.book ≡ b → IsHeld p w r)

-- A list was made behind so many changes, and all are told; where it is refused, the list stopped, or the number
-- doesn't fit.
abbrev pub Promotes : List Change → ℕ → Told → Told → Result ℕ Refusal → Type 0
Promotes list done old new (Ok n) = Ran (λ w. list) old new × (n ≡ done + length list)
Promotes list done old new (Err r) = ((fail : WhFail) × (r ≡ as_refusal fail) × Makes {T = ℕ} (λ w. list) old new (Err fail)) ⊎ ((r ≡ Memory) × Ran (λ w. list) old new)

-- the changes of a plan's models were made, and their number is told, or why they stopped
abbrev pub ExecutesPlan : Plan → Told → Told → Result ℕ Refusal → Type 0
ExecutesPlan p old new (Ok n) = (done : Done) × (n ≡ done.changes) × Executes p old new (Ok done)
ExecutesPlan p old new (Err r) = (fault : ExecFault) × ((r ≡ Memory) ⊎ (r ≡ of_exec fault)) × Executes p old new (Err fault)
