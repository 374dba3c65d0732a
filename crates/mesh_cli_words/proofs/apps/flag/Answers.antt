use Rattle.std.proofs.Common.{◌∙◌, ap}
use Rattle.clap.specs.declared.builder.arg.Arg.{Arg}
use Rattle.mesh_cli_words.proofs.Ruled.{action_rule, long_rule}
use Rattle.mesh_cli_words.proofs.apps.flag.Goals as goal

pub returns-clause-rule : goal.returns-clause-rule
returns-clause-rule c = action_rule _ _ _ _ c.action.ensures (long_rule _ _ _ _ c.long.ensures c.new.ensures.rule)

pub returns-clause-local : goal.returns-clause-local
returns-clause-local c = ap (λ (a : Arg). a.global) c.action.ensures ∙ (ap (λ (a : Arg). a.global) c.long.ensures ∙ c.new.ensures.optional.1)
