use Rattle.std.proofs.Common.{◌≡◌, ◌++◌}
use Rattle.mesh_janitor.specs.janitor.Walk.{deletes_by, goes}
use Rattle.mesh_janitor.proofs.janitor.changes.push_layers.Given as goal

abbrev pub invariant-loop-left : goal.invariant-loop-left
invariant-loop-left l = l.changes ++ deletes_by (goes l.t l.wanted) l.left l.all ≡ l.initial.changes ++ deletes_by (goes l.t l.wanted) l.limit l.all

abbrev pub decreases-loop-left : goal.decreases-loop-left
decreases-loop-left l = l.left
