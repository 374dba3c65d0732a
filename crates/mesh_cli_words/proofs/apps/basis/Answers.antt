use Rattle.mesh_cli_words.proofs.apps.basis.Goals as goal

pub returns-clause-app : goal.returns-clause-app
returns-clause-app c = c.with_arg.ensures.app _ _ c.option-warehouse.ensures.rule (c.with_arg-first.ensures.app _ _ c.option-paths.ensures.rule c.unnamed.ensures.app)

pub returns-clause-local : goal.returns-clause-local
returns-clause-local c = c.with_arg.ensures.local (c.with_arg-first.ensures.local c.unnamed.ensures.local)
