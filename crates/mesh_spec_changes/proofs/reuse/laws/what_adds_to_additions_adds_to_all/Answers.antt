use Rattle.mesh_spec_changes.proofs.reuse.Compatible.{compatible_through}
use Rattle.mesh_spec_changes.proofs.reuse.laws.what_adds_to_additions_adds_to_all.Goals as goal

pub returns : goal.returns
returns c = compatible_through
