use Rattle.std.proofs.Common.{◌≡◌, map, take}
use Rattle.std.specs.BTreeMap.{get}
use Rattle.mesh_base_values.specs.Names.{name_cmp}
use Rattle.mesh_category.specs.versions.Standing.{node_by, snapshots_of}
use Rattle.mesh_category.proofs.versions.projects.as_nodes.Given as goal

abbrev pub invariant-loop-one : goal.invariant-loop-one
invariant-loop-one l = l.nodes ≡ map (node_by (get name_cmp l.places)) (snapshots_of (take l.one-index l.all))
