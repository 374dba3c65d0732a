use Rattle.std.proofs.Common.{◌≡◌, ◌≤◌, length, drop}
use Rattle.mesh_spec_changes.specs.Changes.{names_by_order}
use Rattle.mesh_janitor.proofs.naming.placed_all.Given as goal

abbrev pub invariant-loop-left : goal.invariant-loop-left
invariant-loop-left l = (l.left ≤ length l.names) × (l.made ≡ names_by_order (drop l.left l.names))

abbrev pub decreases-loop-left : goal.decreases-loop-left
decreases-loop-left l = l.left
