use Rattle.mesh_list.proofs.Ascends.{ascends-placed}
use Rattle.mesh_base_values.specs.Names.{name_cmp}
use Rattle.mesh_base_values.specs.NameOrder.{names_total}
use Rattle.mesh_house.specs.Objects.{object_name, is_physical}
use Rattle.mesh_house.proofs.Tested.{all-placed}
use Rattle.mesh_house.proofs.objects.Objects.place.Goals as goal

pub invariant_of-self-2 : goal.invariant_of-self-2
invariant_of-self-2 c = rw c.in_ok-place.ensures.ok (ascends-placed name_cmp names_total object_name c.args.object c.self.inside.list c.self.invariant.0, all-placed name_cmp object_name (λ o. is_physical o.name) c.args.object c.requires c.self.inside.list c.self.invariant.1)
