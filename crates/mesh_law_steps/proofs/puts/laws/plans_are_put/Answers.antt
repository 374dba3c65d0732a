use Rattle.mesh_law_steps.proofs.puts.Puts.{plans_put}
use Rattle.mesh_law_steps.proofs.puts.laws.plans_are_put.Goals as goal

pub returns : goal.returns
returns c = plans_put
