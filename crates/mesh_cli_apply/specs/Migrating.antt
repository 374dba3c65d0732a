-- What moving a book makes and prints, and why it is refused.
use Rattle.std.specs.Prelude.{◌≡◌, ◌⊎◌, ℕ, true, false, nat_eq, if◌then◌else◌, List, [], ◌∷◌, length, Result, Ok, Err}
use Rattle.std.specs.declared.option.Option.TheVariants.{None}
use Rattle.mesh_base_values.specs.declared.values.Name.{Name}
use Rattle.mesh_base.specs.declared.forgets.Rename.{Rename}
use Rattle.mesh_query_tokens.specs.declared.faults.FaultKind.TheVariants.{FingerprintClash}
use Rattle.mesh_house_book.specs.declared.book.Book.{Book}
use Rattle.mesh_house_book.specs.WellFormed.{is_well_formed_book}
use Rattle.mesh_spec_model.specs.Horizons.{Clock}
use Rattle.mesh_house.specs.declared.house.WhFail.{WhFail}
use Rattle.mesh_house.specs.declared.world.Change.{Change}
use Rattle.mesh_house.specs.declared.world.Change.TheVariants.{Migrate}
use Rattle.mesh_house.specs.declared.world.World.{World}
use Rattle.mesh_house.specs.House.{Told}
use Rattle.mesh_house.specs.Runs.{Makes, Ran}
use Rattle.mesh_spec_changes.specs.Commands.{MigrateAll, changes}
use Rattle.mesh_cli_print.specs.faults.Lines.{name_text}
use Rattle.mesh_janitor.specs.migrate.Migration.{IsMap, IsRefused, first_twins}
use Rattle.mesh_janitor.specs.declared.migrate.fault.MigrationFault.{MigrationFault}
use Rattle.mesh_janitor.specs.declared.migrate.fault.MigrationFault.TheVariants.{Twins, Memory as NoRoom}
use Rattle.mesh_cli_print.specs.printed.Reports.{migrated_line}
use Rattle.mesh_cli_print.specs.declared.printed.refusals.Refusal.{Refusal}
use Rattle.mesh_cli_print.specs.declared.printed.refusals.Refusal.TheVariants.{Memory, Model}
use Rattle.mesh_cli_answer.specs.Answers.{as_refusal}
use Rattle.mesh_cli_answer.specs.Present.{IsBroken}

-- a well-formed book has such a map
pub record IsMoved (b : Book) (renames : List Rename) : Type 0 where
  pub well_formed : is_well_formed_book b ≡ true
  pub map : IsMap b renames

-- `migrate` moves a book of the former version by its map; another book, and one whose map has twins, it leaves as
-- they are
abbrev pub MigrateMakes : World → List Change → Type 0
MigrateMakes w list = (renames : List Rename) × IsMoved w.book renames × ((clock : Clock) → list ≡ changes clock (MigrateAll renames) w)

-- how many snapshots are moved
abbrev pub moved_number : Book → ℕ
moved_number b = if nat_eq b.version 1 then length b.snapshots else 0

-- two snapshots of one name would get one fingerprint, and the first such are told
pub record IsClashing (b : Book) (r : Refusal) : Type 0 where
  pub well_formed : is_well_formed_book b ≡ true
  pub former : nat_eq b.version 1 ≡ true
  pub name : Name
  pub stored : List ℕ
  pub given : List ℕ
  pub first : IsRefused b (Twins name stored given)
  pub told : r ≡ Model (name_text name) 0 (FingerprintClash stored given)

-- no two snapshots of one name would get one fingerprint: the book isn't moved, or its map has no twins
abbrev pub HasNoTwins : Book → Type 0
HasNoTwins b = (nat_eq b.version 1 ≡ false) ⊎ ((renames : List Rename) × IsMap b renames × (first_twins renames ≡ None))

abbrev pub MigrateGives : World → Result (List ℕ) Refusal → Type 0
MigrateGives w (Ok text) = (is_well_formed_book w.book ≡ true) × HasNoTwins w.book × (text ≡ migrated_line (moved_number w.book))
MigrateGives w (Err r) = IsBroken w.book r ⊎ IsClashing w.book r

-- why a book isn't moved, as a command tells it
abbrev pub of_migration : MigrationFault → Refusal
of_migration (Twins name stored given) = Model (name_text name) 0 (FingerprintClash stored given)
of_migration NoRoom = Memory

-- the book was moved by these renames, and this line is answered; where it is refused, the change stopped
abbrev pub Moves : List Rename → List ℕ → Told → Told → Result (List ℕ) Refusal → Type 0
Moves renames line old new (Ok text) = Ran (λ w. Migrate renames ∷ []) old new × (text ≡ line)
Moves renames line old new (Err r) = (fail : WhFail) × (r ≡ as_refusal fail) × Makes {T = Unit {0}} (λ w. Migrate renames ∷ []) old new (Err fail)
