use Rattle.std.proofs.Common.{Err}
use Rattle.mesh_query_tokens.specs.declared.faults.ReadFault.TheVariants as faults
use Rattle.mesh_model.proofs.read.read_model.Goals as goal

pub returns-in-Err : goal.returns-in-Err
returns-in-Err c = (Err faults.Memory, tt, tt)
