use Rattle.mesh_law_steps.proofs.migrate.Views.{shows_still}
use Rattle.mesh_law_steps.proofs.migrate.laws.migrating_leaves_the_rows_of_views.Goals as goal

pub returns : goal.returns
returns c clock w renames = shows_still w renames clock
