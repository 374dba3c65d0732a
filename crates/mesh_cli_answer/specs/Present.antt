-- Whether a book is as a command needs it: it breaks no rule, and is of the present version.
use Rattle.std.specs.Prelude.{◌≡◌, ◌⊎◌, ◌≤◌, true, false, nat_eq, Some, Result, IfOk, IfErr, IsErrOf}
use Rattle.mesh_list.specs.Counts.{Rose}
use Rattle.mesh_house_book.specs.declared.book.Book.{Book}
use Rattle.mesh_house_book.specs.declared.fault.BookFault.{BookFault}
use Rattle.mesh_house_book.specs.WellFormed.{book_fault, is_well_formed_book}
use Rattle.mesh_spec_changes.specs.Commands.{is_present}
use Rattle.mesh_house.specs.declared.world.World.{World}
use Rattle.mesh_house.specs.House.{Told}
use Rattle.mesh_cli_print.specs.declared.printed.refusals.Refusal.{Refusal}
use Rattle.mesh_cli_print.specs.declared.printed.refusals.Refusal.TheVariants.{Warehouse, Input, BookBroken, StateOld}
use Rattle.mesh_cli_answer.specs.Answers.{IsAlone, is_fault}

-- the book breaks a rule, and this is told
pub record IsBroken (b : Book) (r : Refusal) : Type 0 where
  pub fault : BookFault
  pub first : book_fault b ≡ Some fault
  pub told : r ≡ BookBroken fault.part fault.place

-- the book breaks no rule and is of another version, and this is told
pub record IsOld (b : Book) (r : Refusal) : Type 0 where
  pub well_formed : is_well_formed_book b ≡ true
  pub version : nat_eq b.version 2 ≡ false
  pub told : r ≡ StateOld b.version

abbrev pub IsNotPresent : Book → Refusal → Type 0
IsNotPresent b r = IsBroken b r ⊎ IsOld b r

-- The book of a warehouse was read, which is as it has to be, or is told not to be; nothing was changed.
pub record ReadsPresent (old new : Told) (result : Result Book Refusal) : Type 0 where
  pub alone : IsAlone old new
  pub faults : old.faults ≤ new.faults
  pub failed : IsErrOf result Warehouse → Rose old.faults new.faults
  pub inside : IsErrOf result Input → ⊥
  pub present : IfOk result (λ b. is_present b ≡ true)
  pub book : IfOk result (λ b. (w : World) → old.world ≡ Some w → b ≡ w.book)
  pub refused : IfErr result (λ r. is_fault r ≡ false → (w : World) → old.world ≡ Some w → IsNotPresent w.book r)
