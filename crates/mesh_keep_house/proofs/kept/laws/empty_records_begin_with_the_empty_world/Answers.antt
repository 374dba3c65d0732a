use Rattle.mesh_keep_house.proofs.kept.Empty.{empty_begun}
use Rattle.mesh_keep_house.proofs.kept.laws.empty_records_begin_with_the_empty_world.Goals as goal

pub returns : goal.returns
returns c = empty_begun
