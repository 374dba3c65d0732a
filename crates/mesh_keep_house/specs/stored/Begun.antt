-- The records that a warehouse begins with.
use Rattle.std.specs.Prelude.{◌≡◌, ◌⊎◌, ◌≤◌, ℕ, pos, List, Some, None, Result, OnOk, IsErrOf}
use Rattle.std.specs.Option.{option_map}
use Rattle.std.specs.declared.option.Option.{Option}
use Rattle.mesh_list.specs.Counts.{Rose}
use Rattle.mesh_keep_records.specs.declared.book_records.BookHead.{BookHead}
use Rattle.mesh_keep_records.specs.Keys.{head_key}
use Rattle.mesh_keep_records.specs.Records.{head_text}
use Rattle.mesh_keep.specs.declared.keeper.KeepFail.{KeepFail}
use Rattle.mesh_keep.specs.declared.keeper.KeepFail.TheVariants.{Failed, Memory}
use Rattle.mesh_keep.specs.declared.kept.Kept.{Kept}
use Rattle.mesh_keep.specs.declared.kept.Write.{Write}
use Rattle.mesh_keep.specs.Keeping.{KeeperTold}
use Rattle.mesh_keep.specs.Places.{body_at, write_one}

-- what the empty book has besides its lists
abbrev pub first_head : BookHead
first_head = record { version = 2; moment = pos 0 }

-- the write of its record
unfoldable pub first_write : Write
first_write = record { kind = 0; name = head_key; body = Some (head_text first_head) }

-- the records, with that one where there was none of its kind and name
abbrev pub begun_at : Option (List ℕ) → List Kept → List Kept
begun_at None kept = write_one kept first_write
begun_at (Some body) kept = kept

abbrev pub begun : List Kept → List Kept
begun kept = begun_at (body_at kept 0 head_key) kept

-- this was to be made of the records: it was, or nothing was
pub record Makes {T : Type 0} (made : List Kept → List Kept) (old new : KeeperTold) (result : Result T KeepFail) : Type 0 where
  pub faults : old.faults ≤ new.faults
  pub ok : OnOk result (new.records ≡ option_map made old.records)
  pub failed : IsErrOf result Failed → Rose old.faults new.faults × ((new.records ≡ old.records) ⊎ (new.records ≡ option_map made old.records))
  pub memory : IsErrOf result Memory → new.records ≡ old.records
