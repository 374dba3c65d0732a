use Rattle.mesh_law_changes.proofs.Recording.{unit_recorded}
use Rattle.mesh_law_changes.proofs.laws.recording_a_unit_keeps_the_world_sound.Goals as goal

pub returns : goal.returns
returns c = unit_recorded
