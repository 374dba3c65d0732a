-- A keeper over which no house begins.
use Rattle.std.specs.Prelude.{◌≡◌, ◌⊎◌}
use Rattle.std.specs.Option.{option_map}
use Rattle.mesh_list.specs.Counts.{Rose}
use Rattle.mesh_keep.specs.Keeping.{KeeperTold}
use Rattle.mesh_keep_house.specs.declared.kept.fault.KeepFault.{KeepFault}
use Rattle.mesh_keep_house.specs.declared.kept.fault.KeepFault.TheVariants.{Failed, Memory}
use Rattle.mesh_keep_house.specs.stored.Begun.{begun}

-- it comes back: it failed only where its count rose, and has the records that it had, or those to begin with
abbrev pub RefusedAs : {K : Type 0} → (K → KeeperTold) → K → KeepFault K → Type 0
RefusedAs told keeper (Failed back) =
    Rose (told keeper).faults (told back).faults
    × (((told back).records ≡ (told keeper).records) ⊎ ((told back).records ≡ option_map begun (told keeper).records))
RefusedAs told keeper (Memory back) = (told back).records ≡ (told keeper).records
