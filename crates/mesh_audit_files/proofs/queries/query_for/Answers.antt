use Rattle.std.proofs.Common.{Err}
use Rattle.mesh_query_tokens.specs.declared.faults.ReadFault.TheVariants as faults
use Rattle.mesh_audit_files.proofs.Walking.{memory_gives}
use Rattle.mesh_audit_files.proofs.queries.query_for.Goals as goal

pub returns-in_err-tokens-clause-says : goal.returns-in_err-tokens-clause-says
returns-in_err-tokens-clause-says c = (Err faults.Memory, tt, memory_gives _ _ c.from_residual.ensures.1)
