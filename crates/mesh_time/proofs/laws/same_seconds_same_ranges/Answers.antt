use Rattle.mesh_time.proofs.Same.{same_ranges}
use Rattle.mesh_time.proofs.laws.same_seconds_same_ranges.Goals as goal

pub returns : goal.returns
returns c = same_ranges
