use Rattle.std.proofs.Common.{◌≡◌, [], drop}
use Rattle.mesh_base_values.specs.Names.{name_cmp}
use Rattle.mesh_house.specs.Objects.{object_name}
use Rattle.mesh_keep.specs.Said.{object_said, things_in}
use Rattle.mesh_keep_house.proofs.stored.lists.take_objects.Given as goal

abbrev pub invariant-loop-record : goal.invariant-loop-record
invariant-loop-record l = things_in name_cmp object_name object_said l.objects (drop l.record-index l.records) ≡ things_in name_cmp object_name object_said [] l.records
