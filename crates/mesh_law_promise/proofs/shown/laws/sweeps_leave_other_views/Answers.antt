use Rattle.mesh_law_promise.proofs.shown.Sweeping.{sweep_leaves}
use Rattle.mesh_law_promise.proofs.shown.laws.sweeps_leave_other_views.Goals as goal

pub returns : goal.returns
returns c = sweep_leaves
