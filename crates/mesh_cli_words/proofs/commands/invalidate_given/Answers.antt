use Rattle.std.proofs.Common.{◌∙◌, ap, option_map}
use Rattle.clap.specs.Walk.{rows_of}
use Rattle.clap.specs.Matches.{found_of}
use Rattle.mesh_cli_words.specs.Lines.{env_given}
use Rattle.mesh_cli_words.specs.declared.line.Command.TheVariants.{Invalidate}
use Rattle.mesh_cli_words.proofs.Asking.{expires}
use Rattle.mesh_cli_words.proofs.commands.invalidate_given.Goals as goal

pub returns : goal.returns
returns c = c.invalidated.ensures ∙ (ap (option_map Invalidate) c.in_ok-env.ensures ∙ expires (env_given (rows_of (found_of c.args.m.now))))
