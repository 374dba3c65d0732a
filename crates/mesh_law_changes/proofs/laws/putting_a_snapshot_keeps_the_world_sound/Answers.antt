use Rattle.mesh_law_changes.proofs.Putting.{snapshot_put}
use Rattle.mesh_law_changes.proofs.laws.putting_a_snapshot_keeps_the_world_sound.Goals as goal

pub returns : goal.returns
returns c = snapshot_put
