use Rattle.mesh_law_promise.proofs.Promise.{runs_show_from_scratch, shows_from_scratch}
use Rattle.mesh_law_promise.proofs.laws.histories_show_rows_from_scratch.Goals as goal

pub returns-clause-applies : goal.returns-clause-applies
returns-clause-applies c = shows_from_scratch c.the_empty_world_is_sound.ensures

pub returns-clause-runs : goal.returns-clause-runs
returns-clause-runs c = runs_show_from_scratch c.the_empty_world_is_sound.ensures
