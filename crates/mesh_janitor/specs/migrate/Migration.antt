-- The fingerprints that the snapshots of a book get, and the first two that would become one.
use Rattle.std.specs.Prelude.{◌≡◌, ℕ, ⊤, List, [], ◌∷◌, Some, None, map}
use Rattle.std.specs.declared.option.Option.{Option}
use Rattle.sha2.specs.Sha256.{sha256}
use Rattle.mesh_list.specs.Keyed.{found}
use Rattle.mesh_base.specs.declared.forgets.Rename.{Rename}
use Rattle.mesh_base.specs.declared.snapshots.Ref.{Ref}
use Rattle.mesh_base.specs.declared.snapshots.Snapshot.{Snapshot}
use Rattle.mesh_base.specs.Keys.{ref_cmp, snapshot_ref}
use Rattle.mesh_house_book.specs.declared.book.Book.{Book}
use Rattle.mesh_canon_text.specs.Text.{node_text}
use Rattle.mesh_house_book.specs.moves.Renames.{renamed}
use Rattle.mesh_janitor.specs.declared.migrate.fault.MigrationFault.{MigrationFault}
use Rattle.mesh_janitor.specs.declared.migrate.fault.MigrationFault.TheVariants.{Twins, Memory}

-- the SHA-256 of a snapshot's definition and its parents' new fingerprints
abbrev pub fingerprint_by : List Rename → Snapshot → List ℕ
fingerprint_by renames s = sha256 (node_text s.own (map (renamed renames) s.parents))

-- a snapshot with the fingerprint that it gets
abbrev pub rename_by : List Rename → Snapshot → Rename
rename_by renames s = record { old = snapshot_ref s; new = fingerprint_by renames s }

-- The map of a book: each snapshot, in the book's order, with the fingerprint of its definition over the fingerprints
-- that the same map gives its parents.
abbrev pub IsMap : Book → List Rename → Type 0
IsMap b renames = renames ≡ map (rename_by renames) b.snapshots

-- the reference that a rename gives
abbrev pub rename_new : Rename → Ref
rename_new m = record { name = m.old.name; fingerprint = m.new }

-- a rename with a later one that gives the same, or else those that come later
abbrev pub twins_or : Rename → Option Rename → Option (Rename × Rename) → Option (Rename × Rename)
twins_or m None later = later
twins_or m (Some other) later = Some (m, other)

-- the first rename that gives the reference that a later one gives, with the first such later one
abbrev pub first_twins : List Rename → Option (Rename × Rename)
first_twins [] = None
first_twins (m ∷ ms) = twins_or m (found ref_cmp rename_new (rename_new m) ms) (first_twins ms)

-- the fault tells these two renames
pub record AreTold (twins : Option (Rename × Rename)) (fault : MigrationFault) : Type 0 where
  pub first : Rename
  pub second : Rename
  pub told : fault ≡ Twins first.old.name first.old.fingerprint second.old.fingerprint
  pub are_twins : twins ≡ Some (first, second)

-- why renames aren't answered: memory was wanting, or two of them give one reference
abbrev pub TellsTwins : Option (Rename × Rename) → MigrationFault → Type 0
TellsTwins twins Memory = ⊤
TellsTwins twins (Twins name stored given) = AreTold twins (Twins name stored given)

-- why a book isn't moved: memory was wanting, or its map has two renames that give one reference
abbrev pub IsRefused : Book → MigrationFault → Type 0
IsRefused b Memory = ⊤
IsRefused b (Twins name stored given) = (renames : List Rename) × IsMap b renames × AreTold (first_twins renames) (Twins name stored given)
