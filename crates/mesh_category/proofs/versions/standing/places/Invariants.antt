use Rattle.std.proofs.Common.{◌≡◌, ◌≤◌, length, drop}
use Rattle.std.specs.BTreeMap.{get}
use Rattle.mesh_base_values.specs.Names.{name_cmp}
use Rattle.mesh_base_values.specs.declared.values.Name.{Name}
use Rattle.mesh_category.specs.versions.Standing.{place_from, snapshots_of}
use Rattle.mesh_category.proofs.versions.standing.places.Given as goal

abbrev pub invariant-loop-left : goal.invariant-loop-left
invariant-loop-left l = (l.left ≤ length l.all) × ((name : Name) → get name_cmp l.places name ≡ place_from l.left name (snapshots_of (drop l.left l.all)))

abbrev pub decreases-loop-left : goal.decreases-loop-left
decreases-loop-left l = l.left
