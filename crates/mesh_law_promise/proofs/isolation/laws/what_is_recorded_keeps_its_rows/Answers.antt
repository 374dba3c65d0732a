use Rattle.mesh_law_promise.proofs.isolation.Recorded.{recorded_kept}
use Rattle.mesh_law_promise.proofs.isolation.laws.what_is_recorded_keeps_its_rows.Goals as goal

pub returns : goal.returns
returns c = recorded_kept
