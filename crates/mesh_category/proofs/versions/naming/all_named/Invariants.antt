use Rattle.std.proofs.Common.{◌≡◌, Some, map, take}
use Rattle.std.specs.List.{All}
use Rattle.mesh_category.specs.versions.Clashes.{IsAlone, versions}
use Rattle.mesh_category.proofs.versions.naming.all_named.Given as goal

abbrev pub invariant-loop-at : goal.invariant-loop-at
invariant-loop-at l = record {
  objects : map Some l.made ≡ take l.at (versions l.b.snapshots l.base l.nodes l.categories);
  alone : All (IsAlone l.b.snapshots l.nodes) (take l.at l.nodes);
}
