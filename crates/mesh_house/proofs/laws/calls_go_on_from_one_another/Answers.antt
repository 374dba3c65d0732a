use Rattle.mesh_house.proofs.Runs.{ran_then, stopped_then}
use Rattle.mesh_house.proofs.laws.calls_go_on_from_one_another.Goals as goal

pub returns : goal.returns
returns c = record { ran = ran_then; stopped = stopped_then }
