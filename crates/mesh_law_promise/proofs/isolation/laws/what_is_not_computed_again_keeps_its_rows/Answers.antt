use Rattle.mesh_law_promise.proofs.isolation.Spared.{not_again_kept}
use Rattle.mesh_law_promise.proofs.isolation.laws.what_is_not_computed_again_keeps_its_rows.Goals as goal

pub returns : goal.returns
returns c = not_again_kept
