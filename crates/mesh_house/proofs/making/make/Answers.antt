use Rattle.mesh_house.proofs.Runs.{change_makes}
use Rattle.mesh_house.proofs.making.make.Goals as goal

pub returns : goal.returns
returns g c = change_makes c.args.change.now _ _ c.change.result c.change.ensures
