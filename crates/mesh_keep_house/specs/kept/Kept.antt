-- What a house over a keeper tells: the world of its keeper's records, the calls for changes, and the keeper's faults
-- with the records that weren't read.
use Rattle.std.specs.Prelude.{◌≡◌, ◌⊎◌, ℕ, ◌+◌, ◌-◌, ◌^◌, ◌≤◌, min, List, Some, None, Result, IsErrOf, OnOk}
use Rattle.std.specs.Option.{option_map}
use Rattle.std.specs.declared.option.Option.{Option}
use Rattle.mesh_list.specs.Counts.{Rose}
use Rattle.mesh_house.specs.declared.house.WhFail.{WhFail}
use Rattle.mesh_house.specs.declared.house.WhFail.TheVariants.{Failed, Memory}
use Rattle.mesh_house.specs.declared.world.Change.{Change}
use Rattle.mesh_house.specs.declared.world.World.{World}
use Rattle.mesh_house.specs.House.{Told}
use Rattle.mesh_house.specs.Step.{step}
use Rattle.mesh_keep.specs.declared.kept.Kept.{Kept}
use Rattle.mesh_keep.specs.Keeping.{KeeperTold}
use Rattle.mesh_keep.specs.Said.{world_of}

-- the world of records, where they are told
abbrev pub told_world : Option (List Kept) → Option World
told_world None = None
told_world (Some kept) = world_of kept

abbrev pub counted : KeeperTold → ℕ → ℕ → Told
counted keeper calls unread =
    record { world = told_world keeper.records; calls = calls; faults = min (keeper.faults + unread) (2 ^ 64 - 1) }

-- a change was to be made of the world of a keeper's records: it was, or it may have been where the keeper failed
pub record Steps {T : Type 0} (change : Change) (old new : KeeperTold) (result : Result T WhFail) : Type 0 where
  pub faults : old.faults ≤ new.faults
  pub ok : OnOk result (told_world new.records ≡ option_map (λ w. step w change) (told_world old.records))
  pub failed : IsErrOf result Failed → Rose old.faults new.faults × ((told_world new.records ≡ told_world old.records) ⊎ (told_world new.records ≡ option_map (λ w. step w change) (told_world old.records)))
  pub memory : IsErrOf result Memory → told_world new.records ≡ told_world old.records
