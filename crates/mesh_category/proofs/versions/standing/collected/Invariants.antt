use Rattle.std.proofs.Common.{◌≡◌, take}
use Rattle.mesh_spec_changes.specs.listed.Listed.{entries}
use Rattle.mesh_category.specs.versions.Standing.{snapshots_of}
use Rattle.mesh_category.proofs.versions.standing.collected.Given as goal

abbrev pub invariant-loop-r : goal.invariant-loop-r
invariant-loop-r l = snapshots_of l.made ≡ entries l.b.snapshots (take l.r-index l.list)
