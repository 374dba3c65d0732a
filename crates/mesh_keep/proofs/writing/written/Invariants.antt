use Rattle.std.proofs.Common.{◌≡◌, take}
use Rattle.mesh_keep.specs.Places.{written}
use Rattle.mesh_keep.proofs.writing.written.Given as goal

abbrev pub invariant-loop-write : goal.invariant-loop-write
invariant-loop-write l = l.made ≡ written l.kept (take l.write-index l.writes)
