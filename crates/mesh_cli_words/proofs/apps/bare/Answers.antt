use Rattle.std.proofs.Common.{◌∙◌, refl, true, ap}
use Rattle.clap.specs.declared.builder.command.Command.{Command}
use Rattle.clap.specs.declared.builder.command.Command.TheOpen.{Command-F}
use Rattle.mesh_cli_words.proofs.Ruled.{set_app}
use Rattle.mesh_cli_words.proofs.apps.bare.Goals as goal

pub returns-clause-app : goal.returns-clause-app
returns-clause-app c =
    set_app (λ f. record f { disable_help_subcommand = true }) (λ s. record s { disable_help_subcommand = true }) (λ f. refl) _ _ _ c.disable_help_subcommand.ensures
    (set_app (λ f. record f { disable_version_flag = true }) (λ s. record s { disable_version_flag = true }) (λ f. refl) _ _ _ c.disable_version_flag.ensures
    (set_app (λ f. record f { disable_help_flag = true }) (λ s. record s { disable_help_flag = true }) (λ f. refl) _ _ _ c.disable_help_flag.ensures c.new.ensures.app))

pub returns-clause-local : goal.returns-clause-local
returns-clause-local c =
    ap (λ (f : Command-F Command). f.has_globals) c.disable_help_subcommand.ensures ∙ (ap (λ (f : Command-F Command). f.has_globals) c.disable_version_flag.ensures
    ∙ (ap (λ (f : Command-F Command). f.has_globals) c.disable_help_flag.ensures ∙ c.new.ensures.local))
