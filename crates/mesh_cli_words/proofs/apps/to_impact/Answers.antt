use Rattle.mesh_cli_words.proofs.apps.to_impact.Goals as goal

pub returns-clause-app : goal.returns-clause-app
returns-clause-app c = c.with_command.ensures.app _ _ c.to_trace.ensures.app c.impact_command.ensures.app c.impact_command.ensures.local

pub returns-clause-local : goal.returns-clause-local
returns-clause-local c = c.with_command.ensures.local c.to_trace.ensures.local c.impact_command.ensures.local
