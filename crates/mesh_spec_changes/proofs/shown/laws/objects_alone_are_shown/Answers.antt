use Rattle.mesh_spec_changes.proofs.shown.Behind.{behind_no_object, behind_plain_target}
use Rattle.mesh_spec_changes.proofs.shown.laws.objects_alone_are_shown.Goals as goal

pub returns : goal.returns
returns c = record { object = behind_no_object; view = behind_plain_target }
