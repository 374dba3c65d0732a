use Rattle.std.proofs.Common.{◌∙◌, refl, ap}
use Rattle.clap.specs.declared.builder.arg.Arg.{Arg}
use Rattle.mesh_cli_words.proofs.Ruled.{required_rule}
use Rattle.mesh_cli_words.proofs.apps.needed.Goals as goal

pub returns-clause-rule : goal.returns-clause-rule
returns-clause-rule c = required_rule c.args.arg c.required.result _ c.required.ensures refl

pub returns-clause-local : goal.returns-clause-local
returns-clause-local c = ap (λ (a : Arg). a.global) c.required.ensures ∙ c.requires
