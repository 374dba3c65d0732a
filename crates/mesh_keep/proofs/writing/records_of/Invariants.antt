use Rattle.std.proofs.Common.{◌≡◌, take}
use Rattle.mesh_keep.specs.Places.{records_of}
use Rattle.mesh_keep.proofs.writing.records_of.Given as goal

abbrev pub invariant-loop-record : goal.invariant-loop-record
invariant-loop-record l = l.made ≡ records_of l.kind (take l.record-index l.kept)
