use Rattle.mesh_law_changes.proofs.Writing.{unit_written}
use Rattle.mesh_law_changes.proofs.laws.writing_a_unit_keeps_the_world_sound.Goals as goal

pub returns : goal.returns
returns c = unit_written
