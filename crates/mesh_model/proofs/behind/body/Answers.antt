use Rattle.std.proofs.Common.{Err}
use Rattle.mesh_query_tokens.specs.declared.faults.ReadFault.TheVariants as faults
use Rattle.mesh_model.proofs.behind.body.Goals as goal

pub returns-then-seed : goal.returns-then-seed
returns-then-seed c = (Err faults.Memory, tt, rw c.if-seed.true (c.nothing.ensures (Err faults.Memory)))
