use Rattle.mesh_cli_words.proofs.apps.to_plan.Goals as goal

pub returns-clause-app : goal.returns-clause-app
returns-clause-app c = c.with_command.ensures.app _ _ c.basis.ensures.app c.plan_command.ensures.app c.plan_command.ensures.local

pub returns-clause-local : goal.returns-clause-local
returns-clause-local c = c.with_command.ensures.local c.basis.ensures.local c.plan_command.ensures.local
