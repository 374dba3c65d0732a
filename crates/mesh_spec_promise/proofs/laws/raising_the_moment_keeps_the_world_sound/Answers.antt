use Rattle.mesh_spec_promise.proofs.Moments.{moment_raised}
use Rattle.mesh_spec_promise.proofs.laws.raising_the_moment_keeps_the_world_sound.Goals as goal

pub returns : goal.returns
returns c = moment_raised
