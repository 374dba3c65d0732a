use Rattle.mesh_spec_model.proofs.Moments.{one_horizon, one_list_of_rows}
use Rattle.mesh_spec_model.proofs.laws.moments_decide_rows.Goals as goal

pub returns : goal.returns
returns c = record { horizons = one_horizon; rows = one_list_of_rows }
