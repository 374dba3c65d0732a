use Rattle.mesh_spec_changes.proofs.reuse.Compatible.{additive_through}
use Rattle.mesh_spec_changes.proofs.reuse.laws.columns_are_added_step_by_step.Goals as goal

pub returns : goal.returns
returns c = additive_through
