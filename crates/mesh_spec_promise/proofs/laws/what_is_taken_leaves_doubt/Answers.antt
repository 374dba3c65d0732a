use Rattle.mesh_spec_promise.proofs.Doubts.{taken_left}
use Rattle.mesh_spec_promise.proofs.laws.what_is_taken_leaves_doubt.Goals as goal

pub returns : goal.returns
returns c = taken_left
