use Rattle.mesh_law_changes.proofs.Making.{view_made_sound}
use Rattle.mesh_law_changes.proofs.laws.making_a_view_keeps_the_world_sound.Goals as goal

pub returns : goal.returns
returns c = view_made_sound
