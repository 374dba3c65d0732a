use Rattle.mesh_cli_words.proofs.apps.to_apply.Goals as goal

pub returns-clause-app : goal.returns-clause-app
returns-clause-app c = c.with_command.ensures.app _ _ c.to_plan.ensures.app c.repeatable.ensures.app c.repeatable.ensures.local

pub returns-clause-local : goal.returns-clause-local
returns-clause-local c = c.with_command.ensures.local c.to_plan.ensures.local c.repeatable.ensures.local
