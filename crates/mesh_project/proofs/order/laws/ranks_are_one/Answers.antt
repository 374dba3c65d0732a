use Rattle.mesh_project.proofs.order.Uniqueness.{ranks_one}
use Rattle.mesh_project.proofs.order.laws.ranks_are_one.Goals as goal

pub returns : goal.returns
returns c = ranks_one
