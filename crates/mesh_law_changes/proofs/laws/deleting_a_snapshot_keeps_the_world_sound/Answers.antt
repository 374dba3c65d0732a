use Rattle.mesh_law_changes.proofs.SnapshotGone.{snapshot_deleted}
use Rattle.mesh_law_changes.proofs.laws.deleting_a_snapshot_keeps_the_world_sound.Goals as goal

pub returns : goal.returns
returns c = snapshot_deleted
