use Rattle.mesh_law_changes.proofs.Recording.{marks_recorded}
use Rattle.mesh_law_changes.proofs.laws.recording_marks_keeps_the_world_sound.Goals as goal

pub returns : goal.returns
returns c = marks_recorded
