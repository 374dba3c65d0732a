use Rattle.std.proofs.Common.{◌∙◌, ap, Some}
use Rattle.clap.specs.declared.builder.arg.Arg.{Arg}
use Rattle.mesh_cli_words.proofs.Ruled.{action_rule, long_rule, parser_rule}
use Rattle.mesh_cli_words.proofs.apps.option.Goals as goal

pub returns-clause-rule : goal.returns-clause-rule
returns-clause-rule c =
    let given = c.value_parser.ensures.given in
    parser_rule _ _ _ _ c.value_parser.ensures.others (given.1 ∙ ap Some given.2) (action_rule _ _ _ _ c.action.ensures (long_rule _ _ _ _ c.long.ensures c.new.ensures.rule))

pub returns-clause-local : goal.returns-clause-local
returns-clause-local c =
    ap (λ (a : Arg). a.global) c.value_parser.ensures.others ∙ (ap (λ (a : Arg). a.global) c.action.ensures ∙ (ap (λ (a : Arg). a.global) c.long.ensures ∙ c.new.ensures.optional.1))
