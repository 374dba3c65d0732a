use Rattle.std.proofs.Common.{Err}
use Rattle.mesh_query_tokens.specs.declared.faults.ReadFault.TheVariants as faults
use Rattle.mesh_audit_files.proofs.text.Refusing.{memory_gives}
use Rattle.mesh_audit_files.proofs.text.texts.read_audit.Goals as goal

pub returns-in_err-tokens : goal.returns-in_err-tokens
returns-in_err-tokens c = (Err faults.Memory, tt, memory_gives _ _ c.from_residual.ensures.1)
