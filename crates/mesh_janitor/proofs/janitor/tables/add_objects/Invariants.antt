use Rattle.std.proofs.Common.{◌≡◌, ◌≤◌, length, drop, map}
use Rattle.mesh_janitor.specs.janitor.Walk.{snapshot_object, with_names}
use Rattle.mesh_janitor.proofs.janitor.tables.add_objects.Given as goal

abbrev pub invariant-loop-left : goal.invariant-loop-left
invariant-loop-left l = (l.left ≤ length l.all) × (l.names ≡ with_names (map snapshot_object (drop l.left l.all)) l.initial.names)

abbrev pub decreases-loop-left : goal.decreases-loop-left
decreases-loop-left l = l.left
