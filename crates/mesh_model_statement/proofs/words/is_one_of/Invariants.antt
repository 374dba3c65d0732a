use Rattle.std.proofs.Common.{◌≡◌, take}
use Rattle.mesh_model_statement.specs.Kinds.{is_one_of}
use Rattle.mesh_model_statement.proofs.words.is_one_of.Given as goal

abbrev pub invariant-loop-other : goal.invariant-loop-other
invariant-loop-other l = l.found ≡ is_one_of (take l.other-index l.words) l.word
