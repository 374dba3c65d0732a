use Rattle.std.proofs.Common.{Err, List, subst}
use Rattle.mesh_query_tokens.specs.declared.faults.ReadFault.TheVariants as faults
use Rattle.mesh_query_tokens.specs.declared.tokens.Token.{Token}
use Rattle.mesh_model.specs.Reads.{IsQueryRead}
use Rattle.mesh_cli_look.proofs.asking.Looking.{given, refused}
use Rattle.mesh_cli_look.proofs.asking.words.word_of.Goals as goal

pub returns-in_err-tokens : goal.returns-in_err-tokens
returns-in_err-tokens c = (Err faults.Memory, tt, refused _ _ _ _ c.in_err-tokens.ensures.gives c.from_residual.ensures.1)

pub returns : goal.returns
returns c = (
  c.tree_query.ensures.0,
  subst (λ (ts : List Token). IsQueryRead ts 0 c.tree_query.ensures.0) c.in_ok-tokens.ensures.tokens c.tree_query.ensures.1,
  given _ _ _ _ c.in_ok-tokens.ensures.gives c.tree_query.ensures.2,
)
