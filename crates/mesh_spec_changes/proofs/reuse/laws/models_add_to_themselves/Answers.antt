use Rattle.mesh_spec_changes.proofs.reuse.Compatible.{compatible_itself}
use Rattle.mesh_spec_changes.proofs.reuse.laws.models_add_to_themselves.Goals as goal

pub returns : goal.returns
returns c = compatible_itself
