use Rattle.mesh_spec_model.proofs.Rows.{full_over_seed}
use Rattle.mesh_spec_model.proofs.laws.full_models_read_their_seed.Goals as goal

pub returns : goal.returns
returns c = full_over_seed
