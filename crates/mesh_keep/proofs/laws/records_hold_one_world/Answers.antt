use Rattle.mesh_keep.proofs.OneWorld.{one_world}
use Rattle.mesh_keep.proofs.laws.records_hold_one_world.Goals as goal

pub returns : goal.returns
returns c = one_world
