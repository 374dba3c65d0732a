-- A keeper in memory.
use Rattle.std.specs.Prelude.{◌≡◌, ℕ, Bool, true, false, List, Some, Result, IsErr, IsErrOf, IsSome, is_some}
use Rattle.std.specs.declared.option.Option.{Option}
use Rattle.mesh_list.specs.Counts.{risen}
use Rattle.mesh_house.specs.declared.fails.Fail.{Fail}
use Rattle.mesh_house.specs.Fails.{change_fails, raised, read_fails}
use Rattle.mesh_keep.specs.declared.keeper.KeepFail.{KeepFail}
use Rattle.mesh_keep.specs.declared.keeper.KeepFail.TheVariants.{Failed}
use Rattle.mesh_keep.specs.declared.kept.Kept.{Kept}
use Rattle.mesh_keep.specs.declared.kept.Write.{Write}
use Rattle.mesh_keep.specs.declared.maps.MapKeeper.{MapKeeper}
use Rattle.mesh_keep.specs.Keeping.{KeeperTold}
use Rattle.mesh_keep.specs.Places.{written}

-- what it tells, which is everything
abbrev pub map_told : MapKeeper → KeeperTold
map_told m = record { records = Some m.kept; faults = m.faults }

-- its records
abbrev pub map_kept : MapKeeper → List Kept
map_kept m = m.kept

-- the calls that are to fail
abbrev pub map_fails : MapKeeper → List Fail
map_fails m = m.fails

-- the number of the next write
abbrev pub next_write : MapKeeper → ℕ
next_write m = m.next_write

-- the number of the next call that only reads
abbrev pub next_look : MapKeeper → ℕ
next_look m = m.next_look

-- whether the next write fails, and then whether after its effect
abbrev pub listed_write : MapKeeper → Option Bool
listed_write m = change_fails m.fails m.next_write

-- whether the next call that only reads fails
abbrev pub listed_look : MapKeeper → Bool
listed_look m = read_fails m.fails m.next_look

-- writes fail exactly where they are listed, unless memory runs out, and are made first where they are listed to fail
-- after
pub record WritesAsListed {T : Type 0} (writes : List Write) (old new : MapKeeper) (result : Result T KeepFail) : Type 0 where
  pub listed : IsErrOf result Failed → IsSome (listed_write old)
  pub only : IsSome (listed_write old) → IsErr result
  pub before : IsErrOf result Failed → listed_write old ≡ Some false → new.kept ≡ old.kept
  pub after : IsErrOf result Failed → listed_write old ≡ Some true → new.kept ≡ written old.kept writes
  pub faults : new.faults ≡ raised (is_some (listed_write old)) old.faults
  pub fails : new.fails ≡ old.fails
  pub next_write : new.next_write ≡ risen 1 old.next_write
  pub next_look : new.next_look ≡ old.next_look

-- a call that only reads fails exactly where it is listed, unless memory runs out
pub record LooksAsListed {T : Type 0} (old new : MapKeeper) (result : Result T KeepFail) : Type 0 where
  pub listed : IsErrOf result Failed → listed_look old ≡ true
  pub only : listed_look old ≡ true → IsErr result
  pub faults : new.faults ≡ raised (listed_look old) old.faults
  pub fails : new.fails ≡ old.fails
  pub next_write : new.next_write ≡ old.next_write
  pub next_look : new.next_look ≡ risen 1 old.next_look
