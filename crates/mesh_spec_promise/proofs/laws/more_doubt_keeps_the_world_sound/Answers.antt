use Rattle.mesh_spec_promise.proofs.Doubts.{doubted}
use Rattle.mesh_spec_promise.proofs.laws.more_doubt_keeps_the_world_sound.Goals as goal

pub returns : goal.returns
returns c = doubted
