use Rattle.mesh_spec_changes.proofs.steady.Arriving.{as_they_are}
use Rattle.mesh_spec_changes.proofs.steady.laws.unchanged_sources_arrive.Goals as goal

pub returns : goal.returns
returns c = as_they_are
