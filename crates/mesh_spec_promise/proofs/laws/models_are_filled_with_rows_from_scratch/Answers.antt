use Rattle.mesh_spec_promise.proofs.Filled.{model_filled}
use Rattle.mesh_spec_promise.proofs.laws.models_are_filled_with_rows_from_scratch.Goals as goal

pub returns : goal.returns
returns c = model_filled
