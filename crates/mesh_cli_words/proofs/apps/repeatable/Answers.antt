use Rattle.mesh_cli_words.proofs.apps.repeatable.Goals as goal

pub returns-clause-app : goal.returns-clause-app
returns-clause-app c = c.with_arg.ensures.app _ _ c.option-end.ensures.rule (c.with_arg-second.ensures.app _ _ c.option-start.ensures.rule (c.with_arg-first.ensures.app _ _ c.option-model.ensures.rule c.timed.ensures.app))

pub returns-clause-local : goal.returns-clause-local
returns-clause-local c = c.with_arg.ensures.local (c.with_arg-second.ensures.local (c.with_arg-first.ensures.local c.timed.ensures.local))
