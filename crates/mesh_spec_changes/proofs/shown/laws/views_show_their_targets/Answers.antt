use Rattle.mesh_spec_changes.proofs.shown.Behind.{behind_view, behind_no_view}
use Rattle.mesh_spec_changes.proofs.shown.laws.views_show_their_targets.Goals as goal

pub returns : goal.returns
returns c = record { target = behind_view; none = behind_no_view }
