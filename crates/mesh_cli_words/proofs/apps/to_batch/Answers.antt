use Rattle.mesh_cli_words.proofs.apps.to_batch.Goals as goal

pub returns-clause-app : goal.returns-clause-app
returns-clause-app c = c.with_command.ensures.app _ _ c.to_impact.ensures.app c.bare.ensures.app c.bare.ensures.local

pub returns-clause-local : goal.returns-clause-local
returns-clause-local c = c.with_command.ensures.local c.to_impact.ensures.local c.bare.ensures.local
