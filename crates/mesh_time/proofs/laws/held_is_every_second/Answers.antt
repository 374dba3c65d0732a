use Rattle.mesh_time.proofs.Held.{held_tells}
use Rattle.mesh_time.proofs.laws.held_is_every_second.Goals as goal

pub returns : goal.returns
returns c = held_tells
