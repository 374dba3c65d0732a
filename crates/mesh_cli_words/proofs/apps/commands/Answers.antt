use Rattle.mesh_cli_words.proofs.apps.commands.Goals as goal

pub returns : goal.returns
returns c = record { app = c.with_command.ensures.app _ _ c.to_batch.ensures.app c.demo_command.ensures.app c.demo_command.ensures.local }
