use Rattle.std.proofs.Common.{take}
use Rattle.std.specs.BTreeMap.{get}
use Rattle.mesh_base_values.specs.Names.{name_cmp}
use Rattle.mesh_base_values.specs.declared.values.Name.{Name}
use Rattle.mesh_category.specs.category.Gone.{IsPlaceOf}
use Rattle.mesh_category.proofs.category.named.places_of.Given as goal

abbrev pub invariant-loop-at : goal.invariant-loop-at
invariant-loop-at l = (name : Name) → IsPlaceOf (take l.at l.nodes) name (get name_cmp l.places name)
