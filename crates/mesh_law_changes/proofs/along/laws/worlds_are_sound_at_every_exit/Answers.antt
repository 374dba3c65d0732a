use Rattle.mesh_law_changes.proofs.along.Along.{along_front}
use Rattle.mesh_law_changes.proofs.along.laws.worlds_are_sound_at_every_exit.Goals as goal

pub returns : goal.returns
returns c = along_front
