use Rattle.mesh_spec_model.proofs.Clocks.{floor_at_moment, shown}
use Rattle.mesh_spec_model.proofs.Moments.{one_floor}
use Rattle.mesh_spec_model.proofs.laws.moments_have_clocks.Goals as goal

pub returns : goal.returns
returns c = record { ticks = floor_at_moment; one = one_floor; clocks = shown }
