use Rattle.mesh_cli_words.proofs.apps.to_trace.Goals as goal

pub returns-clause-app : goal.returns-clause-app
returns-clause-app c = c.with_command.ensures.app _ _ c.to_migrate.ensures.app c.trace_command.ensures.app c.trace_command.ensures.local

pub returns-clause-local : goal.returns-clause-local
returns-clause-local c = c.with_command.ensures.local c.to_migrate.ensures.local c.trace_command.ensures.local
