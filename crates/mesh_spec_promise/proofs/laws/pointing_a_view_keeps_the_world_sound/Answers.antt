use Rattle.mesh_spec_promise.proofs.Pointed.{view_pointed}
use Rattle.mesh_spec_promise.proofs.laws.pointing_a_view_keeps_the_world_sound.Goals as goal

pub returns : goal.returns
returns c = view_pointed
