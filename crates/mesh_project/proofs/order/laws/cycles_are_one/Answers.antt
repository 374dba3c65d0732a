use Rattle.mesh_project.proofs.order.Uniqueness.{cycles_one}
use Rattle.mesh_project.proofs.order.laws.cycles_are_one.Goals as goal

pub returns : goal.returns
returns c = cycles_one
