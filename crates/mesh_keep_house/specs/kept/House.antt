-- A house over a keeper: what it tells, what it begins with, and how its calls fail.
use Rattle.std.specs.Prelude.{◌≡◌, ◌≤◌, ℕ, Result, IsErrOf, IsSome}
use Rattle.std.specs.Option.{option_map}
use Rattle.mesh_list.specs.Counts.{Rose}
use Rattle.mesh_house.specs.declared.house.WhFail.{WhFail}
use Rattle.mesh_house.specs.declared.house.WhFail.TheVariants.{Failed}
use Rattle.mesh_house.specs.House.{Told}
use Rattle.mesh_keep.specs.Keeping.{KeeperTold}
use Rattle.mesh_keep_house.specs.declared.kept.house.KeptHouse.{KeptHouse}
use Rattle.mesh_keep_house.specs.kept.Kept.{counted, told_world}
use Rattle.mesh_keep_house.specs.stored.Begun.{begun}

abbrev pub keeper_of : {K : Type 0} {d : _} → KeptHouse K d → K
keeper_of h = h.keeper

-- how often some record wasn't read
abbrev pub unread_of : {K : Type 0} {d : _} → KeptHouse K d → ℕ
unread_of h = h.unread

abbrev pub house_told : {K : Type 0} {d : _} → (K → KeeperTold) → KeptHouse K d → Told
house_told told h = counted (told h.keeper) h.calls h.unread

-- a house that began over this keeper
pub record Starts {K : Type 0} {d : _} (told : K → KeeperTold) (keeper : K) (house : KeptHouse K d) : Type 0 where
  pub world : (house_told told house).world ≡ told_world (option_map begun (told keeper).records)
  pub records : (told house.keeper).records ≡ option_map begun (told keeper).records
  pub calls : house.calls ≡ 0
  pub unread : house.unread ≡ 0
  pub faults : (told keeper).faults ≤ (told house.keeper).faults

-- where a house tells a world each of its records is read, and a call fails only where the keeper does
pub record OnlyKeeperFails {K : Type 0} {d : _} {T : Type 0} (told : K → KeeperTold) (old new : KeptHouse K d) (result : Result T WhFail) : Type 0 where
  pub unread : IsSome (house_told told old).world → new.unread ≡ old.unread
  pub failed : IsSome (house_told told old).world → IsErrOf result Failed → Rose (told old.keeper).faults (told new.keeper).faults
