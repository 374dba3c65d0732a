use Rattle.std.proofs.Common.{◌∙◌, refl, true, ap}
use Rattle.clap.specs.declared.builder.command.Command.{Command}
use Rattle.clap.specs.declared.builder.command.Command.TheOpen.{Command-F}
use Rattle.mesh_cli_words.proofs.Ruled.{set_app}
use Rattle.mesh_cli_words.proofs.apps.unnamed.Goals as goal

pub returns-clause-app : goal.returns-clause-app
returns-clause-app c =
    set_app (λ f. record f { no_binary_name = true }) (λ s. record s { no_binary_name = true }) (λ f. refl) _ _ _ c.no_binary_name.ensures
    (set_app (λ f. record f { subcommand_required = true }) (λ s. record s { subcommand_required = true }) (λ f. refl) _ _ _ c.subcommand_required.ensures c.bare.ensures.app)

pub returns-clause-local : goal.returns-clause-local
returns-clause-local c =
    ap (λ (f : Command-F Command). f.has_globals) c.no_binary_name.ensures ∙ (ap (λ (f : Command-F Command). f.has_globals) c.subcommand_required.ensures ∙ c.bare.ensures.local)
