use Rattle.mesh_cli_words.proofs.apps.to_run.Goals as goal

pub returns-clause-app : goal.returns-clause-app
returns-clause-app c = c.with_command.ensures.app _ _ c.to_apply.ensures.app c.timed.ensures.app c.timed.ensures.local

pub returns-clause-local : goal.returns-clause-local
returns-clause-local c = c.with_command.ensures.local c.to_apply.ensures.local c.timed.ensures.local
