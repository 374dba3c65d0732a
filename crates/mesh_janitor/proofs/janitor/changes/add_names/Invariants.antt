use Rattle.std.proofs.Common.{◌≡◌, ◌≤◌, length, drop, map}
use Rattle.mesh_base.specs.Keys.{ref_name}
use Rattle.mesh_janitor.specs.janitor.Walk.{with_names}
use Rattle.mesh_janitor.proofs.janitor.changes.add_names.Given as goal

abbrev pub invariant-loop-left : goal.invariant-loop-left
invariant-loop-left l = (l.left ≤ length l.refs) × (l.names ≡ with_names (map ref_name (drop l.left l.refs)) l.initial.names)

abbrev pub decreases-loop-left : goal.decreases-loop-left
decreases-loop-left l = l.left
