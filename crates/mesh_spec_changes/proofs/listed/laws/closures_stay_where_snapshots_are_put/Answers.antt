use Rattle.mesh_spec_changes.proofs.listed.Closings.{closings_stay}
use Rattle.mesh_spec_changes.proofs.listed.laws.closures_stay_where_snapshots_are_put.Goals as goal

pub returns : goal.returns
returns c = closings_stay
