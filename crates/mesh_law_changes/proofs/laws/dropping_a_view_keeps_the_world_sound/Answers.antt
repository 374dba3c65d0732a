use Rattle.mesh_law_changes.proofs.ViewGone.{view_dropped}
use Rattle.mesh_law_changes.proofs.laws.dropping_a_view_keeps_the_world_sound.Goals as goal

pub returns : goal.returns
returns c = view_dropped
