use Rattle.mesh_list.proofs.Standing.{ascends-exchanged}
use Rattle.mesh_base_values.specs.Names.{name_cmp}
use Rattle.mesh_base_values.specs.NameOrder.{names_total}
use Rattle.mesh_house.specs.Objects.{object_name, is_physical}
use Rattle.mesh_house.proofs.Tested.{all-exchanged}
use Rattle.mesh_house.proofs.objects.Objects.exchange.Goals as goal

pub invariant_of-self : goal.invariant_of-self
invariant_of-self c = rw c.exchange.ensures.rest (ascends-exchanged name_cmp names_total object_name c.args.object c.self.inside.list c.self.invariant.0, all-exchanged name_cmp object_name (λ o. is_physical o.name) c.args.object c.requires c.self.inside.list c.self.invariant.1)
