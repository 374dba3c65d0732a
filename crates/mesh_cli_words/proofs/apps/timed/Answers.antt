use Rattle.mesh_cli_words.proofs.apps.timed.Goals as goal

pub returns-clause-app : goal.returns-clause-app
returns-clause-app c = c.with_arg.ensures.app _ _ c.option-moment.ensures.rule (c.with_arg-second.ensures.app _ _ c.option-workers.ensures.rule (c.with_arg-first.ensures.app _ _ c.place-env.ensures.rule c.bare.ensures.app))

pub returns-clause-local : goal.returns-clause-local
returns-clause-local c = c.with_arg.ensures.local (c.with_arg-second.ensures.local (c.with_arg-first.ensures.local c.bare.ensures.local))
