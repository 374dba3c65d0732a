use Rattle.mesh_law_steps.proofs.migrate.Runs.{dues_stay}
use Rattle.mesh_law_steps.proofs.migrate.laws.migrating_leaves_what_is_due.Goals as goal

pub returns : goal.returns
returns c = dues_stay
