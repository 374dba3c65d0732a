use Rattle.mesh_law_changes.proofs.Replacing.{rows_replaced}
use Rattle.mesh_law_changes.proofs.laws.replacing_rows_keeps_the_world_sound.Goals as goal

pub returns : goal.returns
returns c = rows_replaced
