use Rattle.std.proofs.Common.{◌≡◌, [], drop}
use Rattle.mesh_base_values.specs.Names.{name_cmp}
use Rattle.mesh_base.specs.Keys.{input_name}
use Rattle.mesh_keep.specs.Said.{source_said, things_in}
use Rattle.mesh_keep_house.proofs.stored.lists.take_sources.Given as goal

abbrev pub invariant-loop-record : goal.invariant-loop-record
invariant-loop-record l = things_in name_cmp input_name source_said l.sources (drop l.record-index l.records) ≡ things_in name_cmp input_name source_said [] l.records
