-- What a command that only looks answers, and the environment that it looks at.
use Rattle.std.specs.Prelude.{◌≡◌, ◌⊎◌, ℕ, Bool, true, false, nat_eq, if◌then◌else◌, List, Some, None, Result, Ok, Err, IsErrOf}
use Rattle.std.specs.declared.option.Option.{Option}
use Rattle.mesh_list.specs.Counts.{Rose}
use Rattle.mesh_base_values.specs.declared.values.Cell.{Cell}
use Rattle.mesh_base_values.specs.declared.values.Column.{Column}
use Rattle.mesh_base_values.specs.declared.values.Name.{Name}
use Rattle.mesh_base.specs.declared.snapshots.Env.{Env}
use Rattle.mesh_base.specs.declared.snapshots.Ref.{Ref}
use Rattle.mesh_house_book.specs.declared.book.Book.{Book}
use Rattle.mesh_house_book.specs.declared.fault.BookFault.{BookFault}
use Rattle.mesh_house_book.specs.WellFormed.{book_fault}
use Rattle.mesh_house.specs.declared.world.World.{World}
use Rattle.mesh_house.specs.House.{Told}
use Rattle.mesh_spec_changes.specs.Changes.{ascending}
use Rattle.mesh_spec_changes.specs.Environments.{env_at}
use Rattle.mesh_layer.specs.Shows.{IsUntouched, Tells}
use Rattle.mesh_layer.specs.declared.faults.ShowFault.{ShowFault}
use Rattle.mesh_layer.specs.declared.faults.ShowFault.TheVariants as fault
use Rattle.mesh_cli_print.specs.printed.Records.{rows_text}
use Rattle.mesh_cli_print.specs.declared.printed.refusals.Refusal.{Refusal}
use Rattle.mesh_cli_print.specs.declared.printed.refusals.Refusal.TheVariants.{Warehouse, Memory, Input, EnvUnknown, EnvPending, BookBroken, ObjectMissing, StateOld}

-- the warehouse failed or memory ran out: no world says when
abbrev pub is_fault : Refusal → Bool
is_fault Warehouse = true
is_fault Memory = true
is_fault Input = true
is_fault other = false

-- one step of a command, and then the next
infixl 10 ◌>>=◌
abbrev pub ◌>>=◌ : {A B : Type 0} → Result A Refusal → (A → Result B Refusal) → Result B Refusal
(Ok x) >>= next = next x
(Err e) >>= next = Err e

-- what was given is what there is to give, unless memory ran out
abbrev pub Gives : {T : Type 0} → Result T Refusal → Result T Refusal → Type 0
Gives (Ok x) answer = answer ≡ Ok x
Gives (Err e) answer = (e ≡ Memory) ⊎ ((is_fault e ≡ false) × (answer ≡ Err e))

-- the same where the warehouse may fail as well
abbrev pub IsAnswered : {T : Type 0} → Result T Refusal → Result T Refusal → Type 0
IsAnswered (Ok x) answer = answer ≡ Ok x
IsAnswered (Err e) answer = is_fault e ≡ false → answer ≡ Err e

-- Nothing is changed. Where the house tells its world, what is answered is the answer that the world has, unless the
-- warehouse failed or memory ran out. A fault of the warehouse is told only where its count rose.
pub record Looks {T : Type 0} (answer : World → Result T Refusal) (old new : Told) (result : Result T Refusal) : Type 0 where
  pub untouched : IsUntouched old new
  pub answered : (w : World) → Tells old w → IsAnswered result (answer w)
  pub failed : IsErrOf result Warehouse → Rose old.faults new.faults
  pub inside : IsErrOf result Input → ⊥

-- the list of an environment that is there and isn't pending
abbrev pub final_list : List ℕ → Option Env → Result (List Ref) Refusal
final_list env None = Err (EnvUnknown env)
final_list env (Some e) = if e.pending then Err (EnvPending env) else Ok e.list

-- a book that breaks no rule is of the present version
abbrev pub present_list : Book → List ℕ → Option BookFault → Result (List Ref) Refusal
present_list b env (Some f) = Err (BookBroken f.part f.place)
present_list b env None = if nat_eq b.version 2 then final_list env (env_at b env) else Err (StateOld b.version)

-- the list of an environment, by a book that breaks no rule
abbrev pub list_of : Book → List ℕ → Result (List Ref) Refusal
list_of b env = present_list b env (book_fault b)

-- why nothing is shown, as a refusal
abbrev pub of_show : ShowFault → Refusal
of_show (fault.Dangling object) = ObjectMissing object
of_show fault.Warehouse = Warehouse
of_show fault.Memory = Memory

-- Rows as they are printed, in ascending order, or else what dangles. Where no rows are shown something is lost.
abbrev pub printed : List Column → Option (List (List Cell)) → Option Name → Result (List ℕ) Refusal
printed columns (Some rows) lost = Ok (rows_text columns (ascending rows))
printed columns None (Some object) = Err (ObjectMissing object)
printed columns None None = Err Memory
