use Rattle.mesh_spec_changes.proofs.listed.Depths.{closing_is, closure_has}
use Rattle.mesh_spec_changes.proofs.listed.laws.snapshots_stand_on_their_parents_closures.Goals as goal

pub returns : goal.returns
returns c = record { closure = closing_is; reference = closure_has }
