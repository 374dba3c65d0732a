use Rattle.mesh_law_changes.proofs.ObjectGone.{object_dropped}
use Rattle.mesh_law_changes.proofs.laws.dropping_an_object_keeps_the_world_sound.Goals as goal

pub returns : goal.returns
returns c = object_dropped
