use Rattle.mesh_spec_promise.proofs.Moments.{source_loaded}
use Rattle.mesh_spec_promise.proofs.laws.loading_a_source_keeps_the_world_sound.Goals as goal

pub returns : goal.returns
returns c = source_loaded
