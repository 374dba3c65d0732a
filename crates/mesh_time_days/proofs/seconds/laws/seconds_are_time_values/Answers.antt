use Rattle.mesh_time_days.proofs.seconds.Seconds.{time_value}
use Rattle.mesh_time_days.proofs.seconds.laws.seconds_are_time_values.Goals as goal

pub returns : goal.returns
returns c = time_value
