use Rattle.std.specs.BTreeMap.{get}
use Rattle.mesh_base_values.specs.declared.values.Name.{Name}
use Rattle.mesh_base_values.specs.Names.{name_cmp}
use Rattle.mesh_project.specs.order.Links.{IsPlaceOf}
use Rattle.mesh_project.proofs.order.links.places_of.Given as goal

abbrev pub invariant-loop-at : goal.invariant-loop-at
invariant-loop-at l = (name : Name) → IsPlaceOf l.models l.at name (get name_cmp l.places name)
