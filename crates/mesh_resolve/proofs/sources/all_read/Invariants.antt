use Rattle.std.proofs.Common.{◌≡◌, take}
use Rattle.std.specs.List.{filter}
use Rattle.mesh_resolve.specs.Owns.{is_read}
use Rattle.mesh_resolve.proofs.sources.all_read.Given as goal

abbrev pub invariant-loop-d : goal.invariant-loop-d
invariant-loop-d l = l.read ≡ filter (is_read l.known l.fn.names) (take l.d-index l.d-items)
