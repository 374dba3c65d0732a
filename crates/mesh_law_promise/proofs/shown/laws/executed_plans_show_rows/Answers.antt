use Rattle.mesh_law_promise.proofs.formed.Shown.{executed_shows}
use Rattle.mesh_law_promise.proofs.shown.laws.executed_plans_show_rows.Goals as goal

pub returns : goal.returns
returns c = executed_shows
