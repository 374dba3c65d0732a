use Rattle.std.proofs.Common.{◌≡◌, length}
use Rattle.mesh_query_tokens.specs.bounds.Paths.{folder_of}
use Rattle.mesh_query_tokens.proofs.bounds.paths.folder_of.Given as goal

abbrev pub invariant-loop-byte : goal.invariant-loop-byte
invariant-loop-byte l = folder_of l.folder ≡ folder_of l.fn.path

abbrev pub decreases-loop-byte : goal.decreases-loop-byte
decreases-loop-byte l = length l.folder
