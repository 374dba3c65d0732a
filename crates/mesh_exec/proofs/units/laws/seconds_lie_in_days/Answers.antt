use Rattle.mesh_exec.proofs.units.Within.{seconds_of_days}
use Rattle.mesh_exec.proofs.units.laws.seconds_lie_in_days.Goals as goal

pub returns : goal.returns
returns c = seconds_of_days
