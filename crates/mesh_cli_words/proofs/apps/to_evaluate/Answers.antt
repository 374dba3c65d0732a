use Rattle.mesh_cli_words.proofs.apps.to_evaluate.Goals as goal

pub returns-clause-app : goal.returns-clause-app
returns-clause-app c = c.with_command.ensures.app _ _ c.to_run.ensures.app c.evaluate_command.ensures.app c.evaluate_command.ensures.local

pub returns-clause-local : goal.returns-clause-local
returns-clause-local c = c.with_command.ensures.local c.to_run.ensures.local c.evaluate_command.ensures.local
