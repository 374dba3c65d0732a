-- What is known of the world that a house holds.
use Rattle.std.specs.Prelude.{true, List, Some, None}
use Rattle.std.specs.Coded.{Coded-set, coded_bool, coded_option, ×_prop, Unit-prop}
use Rattle.std.specs.declared.option.Option.{Option}
use Rattle.mesh_list.specs.Keyed.{ascends}
use Rattle.mesh_house.specs.declared.world.World.{World}
use Rattle.mesh_house.specs.contracts.world.World as world_type
use Rattle.mesh_keep.specs.declared.kept.Kept.{Kept}
use Rattle.mesh_keep.specs.Places.{kept_place, place_cmp}
use Rattle.mesh_keep.specs.Said.{known_world}
use Rattle.mesh_keep_house.specs.stored.Loads.{AreSaid}

-- the world that is held, if any, is what the records say, if they are told
abbrev pub IsHeld : Option World → Option (List Kept) → Type 0
IsHeld None records = Unit {0}
IsHeld (Some w) records = AreSaid records w

pub IsHeld-prop : (world : Option World) (records : Option (List Kept)) → IsProp (IsHeld world records)
IsHeld-prop None records = Unit-prop
IsHeld-prop (Some w) None = Unit-prop
IsHeld-prop (Some w) (Some kept) =
    ×_prop (Coded-set coded_bool (ascends place_cmp kept_place kept) true)
    (Coded-set (coded_option world_type.the_row.coded) (known_world kept) (Some w))
