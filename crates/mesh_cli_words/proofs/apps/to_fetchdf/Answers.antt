use Rattle.mesh_cli_words.proofs.apps.to_fetchdf.Goals as goal

pub returns-clause-app : goal.returns-clause-app
returns-clause-app c = c.with_command.ensures.app _ _ c.to_evaluate.ensures.app c.fetchdf_command.ensures.app c.fetchdf_command.ensures.local

pub returns-clause-local : goal.returns-clause-local
returns-clause-local c = c.with_command.ensures.local c.to_evaluate.ensures.local c.fetchdf_command.ensures.local
