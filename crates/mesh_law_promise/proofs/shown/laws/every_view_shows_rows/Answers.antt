use Rattle.mesh_law_promise.proofs.shown.Standing.{view_shows_rows}
use Rattle.mesh_law_promise.proofs.shown.laws.every_view_shows_rows.Goals as goal

pub returns : goal.returns
returns c = view_shows_rows
