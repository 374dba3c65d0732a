use Rattle.mesh_resolve.proofs.Sides.{same_exactly}
use Rattle.mesh_resolve.proofs.owns.are_same_columns.Goals as goal

pub returns : goal.returns
returns c = same_exactly c.are_same.result c.args.a.now c.args.b.now c.are_same.ensures
