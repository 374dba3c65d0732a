use Rattle.mesh_exec_works.specs.Plain.{plain_models}
use Rattle.mesh_exec.proofs.Nexts.{first_makes, first_stops}
use Rattle.mesh_exec.proofs.making.make_first.Goals as goal

pub returns-in_err-changes : goal.returns-in_err-changes
returns-in_err-changes g c = first_stops (plain_models c.args.nodes.now c.args.entries.now) c.args.works.now c.index-works-0.result _ _ _ c.from_residual.result c.requires.any c.index-works-0.is c.in_err-changes.ensures c.from_residual.ensures.1

pub returns : goal.returns
returns g c = first_makes (plain_models c.args.nodes.now c.args.entries.now) c.args.works.now c.index-works-0.result c.in_ok-changes.changes _ _ c.requires.any c.index-works-0.is c.in_ok-changes.ensures
