use Rattle.std.proofs.Common.{Err}
use Rattle.mesh_query_tokens.specs.declared.faults.ReadFault.TheVariants as faults
use Rattle.mesh_cli_look.proofs.asking.Looking.{given, refused}
use Rattle.mesh_cli_look.proofs.asking.words.worded.Goals as goal

pub returns-in_err-known : goal.returns-in_err-known
returns-in_err-known c = (Err faults.Memory, tt, refused _ _ _ _ c.in_err-known.ensures c.from_residual.ensures.1)

pub returns : goal.returns
returns c = (c.word_of.ensures.0, c.word_of.ensures.1, given _ _ _ _ c.in_ok-known.ensures c.word_of.ensures.2)
