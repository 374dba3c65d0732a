use Rattle.mesh_time_days.proofs.seconds.Seconds.{second_is}
use Rattle.mesh_time_days.proofs.seconds.rows.second_of.Goals as goal

pub returns : goal.returns
returns c = second_is c.args.cell.now c.time_value.result c.time_value.ensures
