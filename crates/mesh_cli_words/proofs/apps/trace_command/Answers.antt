use Rattle.mesh_cli_words.proofs.apps.trace_command.Goals as goal

pub returns-clause-app : goal.returns-clause-app
returns-clause-app c = c.with_arg.ensures.app _ _ c.needed_place-column.ensures.rule (c.with_arg-first.ensures.app _ _ c.needed_place-model.ensures.rule c.bare.ensures.app)

pub returns-clause-local : goal.returns-clause-local
returns-clause-local c = c.with_arg.ensures.local (c.with_arg-first.ensures.local c.bare.ensures.local)
