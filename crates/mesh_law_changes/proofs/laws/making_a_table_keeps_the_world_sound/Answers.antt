use Rattle.mesh_law_changes.proofs.Making.{table_made_sound}
use Rattle.mesh_law_changes.proofs.laws.making_a_table_keeps_the_world_sound.Goals as goal

pub returns : goal.returns
returns c = table_made_sound
