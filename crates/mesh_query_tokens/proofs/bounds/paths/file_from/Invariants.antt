use Rattle.std.proofs.Common.{◌≡◌, [], drop}
use Rattle.mesh_query_tokens.specs.bounds.Paths.{file_from}
use Rattle.mesh_query_tokens.proofs.bounds.paths.file_from.Given as goal

abbrev pub invariant-loop-i : goal.invariant-loop-i
invariant-loop-i l = file_from l.folder l.part (drop l.i l.path) ≡ file_from l.fn.folder [] l.path
