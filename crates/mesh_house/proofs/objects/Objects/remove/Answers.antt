use Rattle.mesh_list.proofs.Standing.{ascends-without}
use Rattle.mesh_base_values.specs.Names.{name_cmp}
use Rattle.mesh_base_values.specs.NameOrder.{names_total}
use Rattle.mesh_house.specs.Objects.{object_name, is_physical}
use Rattle.mesh_house.proofs.Tested.{all-without}
use Rattle.mesh_house.proofs.objects.Objects.remove.Goals as goal

pub invariant_of-self : goal.invariant_of-self
invariant_of-self c = rw c.remove.ensures.rest (ascends-without name_cmp names_total object_name c.args.name.now c.self.inside.list c.self.invariant.0, all-without name_cmp object_name (λ o. is_physical o.name) c.args.name.now c.self.inside.list c.self.invariant.1)
