use Rattle.mesh_model.proofs.Settled.{made, refused}
use Rattle.mesh_model.proofs.finished.finished.Goals as goal

pub returns-in-Ok : goal.returns-in-Ok
returns-in-Ok c = made c.args.file.now c.args.whole c.kind_of-kind.result (c.in-Ok.file, c.in-Ok.name, c.in-Ok.start, c.in-Ok.cron) c.unit_or_its.result c.kind_of-kind.ensures c.unit_or_its.ensures c.in-Ok.ensures

pub returns : goal.returns
returns c = refused c.in-Err.fault c.args.file.now c.args.whole c.kind_of-kind.result c.kind_of-kind.ensures c.in-Err.ensures
