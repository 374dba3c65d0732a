use Rattle.std.proofs.Common.{◌≡◌, take}
use Rattle.std.specs.BTreeMap.{get}
use Rattle.mesh_base_values.specs.Names.{name_cmp}
use Rattle.mesh_category.specs.versions.Standing.{places_by}
use Rattle.mesh_category.proofs.versions.projects.parents_at.Given as goal

abbrev pub invariant-loop-parent : goal.invariant-loop-parent
invariant-loop-parent l = l.made ≡ places_by (get name_cmp l.places) (take l.parent-index l.parents)
