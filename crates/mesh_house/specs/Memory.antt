-- A house in memory.
use Rattle.std.specs.Prelude.{◌≡◌, ℕ, Bool, true, false, List, Some, Result, IsErr, IsErrOf, IsSome, is_some}
use Rattle.std.specs.declared.option.Option.{Option}
use Rattle.mesh_house.specs.declared.world.Change.{Change}
use Rattle.mesh_house.specs.declared.world.World.{World}
use Rattle.mesh_house.specs.declared.fails.Fail.{Fail}
use Rattle.mesh_house.specs.declared.memory.MemHouse.{MemHouse}
use Rattle.mesh_house.specs.declared.house.WhFail.{WhFail}
use Rattle.mesh_house.specs.declared.house.WhFail.TheVariants.{Failed}
use Rattle.mesh_list.specs.Counts.{risen}
use Rattle.mesh_house.specs.Fails.{change_fails, read_fails, raised}
use Rattle.mesh_house.specs.House.{Told}
use Rattle.mesh_house.specs.Step.{step}

-- what it tells, which is everything
abbrev pub memory_told : MemHouse → Told
memory_told h = record { world = Some h.world; calls = h.calls; faults = h.faults }

-- what is told of a world before the first call
abbrev pub fresh : World → Told
fresh w = record { world = Some w; calls = 0; faults = 0 }

-- its world
abbrev pub memory_world : MemHouse → World
memory_world h = h.world

-- the calls that are to fail
abbrev pub memory_fails : MemHouse → List Fail
memory_fails h = h.fails

-- the number of the next change call
abbrev pub next_change : MemHouse → ℕ
next_change h = h.next_change

-- the number of the next call that only reads
abbrev pub next_read : MemHouse → ℕ
next_read h = h.next_read

-- whether the next change call fails, and then whether after its effect
abbrev pub listed_change : MemHouse → Option Bool
listed_change h = change_fails h.fails h.next_change

-- whether the next call that only reads fails
abbrev pub listed_read : MemHouse → Bool
listed_read h = read_fails h.fails h.next_read

-- a change fails exactly where it is listed, unless memory runs out, and is made first where it is listed to fail after
pub record ChangesAsListed {T : Type 0} (change : Change) (old new : MemHouse) (result : Result T WhFail) : Type 0 where
  pub listed : IsErrOf result Failed → IsSome (listed_change old)
  pub only : IsSome (listed_change old) → IsErr result
  pub before : IsErrOf result Failed → listed_change old ≡ Some false → new.world ≡ old.world
  pub after : IsErrOf result Failed → listed_change old ≡ Some true → new.world ≡ step old.world change
  pub faults : new.faults ≡ raised (is_some (listed_change old)) old.faults
  pub fails : new.fails ≡ old.fails
  pub next_change : new.next_change ≡ risen 1 old.next_change
  pub next_read : new.next_read ≡ old.next_read

-- a call that only reads fails exactly where it is listed, unless memory runs out
pub record ReadsAsListed {T : Type 0} (old new : MemHouse) (result : Result T WhFail) : Type 0 where
  pub listed : IsErrOf result Failed → listed_read old ≡ true
  pub only : listed_read old ≡ true → IsErr result
  pub faults : new.faults ≡ raised (listed_read old) old.faults
  pub fails : new.fails ≡ old.fails
  pub next_change : new.next_change ≡ old.next_change
  pub next_read : new.next_read ≡ risen 1 old.next_read
