use Rattle.mesh_base_values.specs.Names.{name_cmp}
use Rattle.mesh_base_values.specs.NameOrder.{names_total}
use Rattle.mesh_house.specs.Objects.{object_name, is_physical}
use Rattle.mesh_house.specs.Outside.{stays}
use Rattle.mesh_house.proofs.Thinned.{ascends_left, all_left}
use Rattle.mesh_house.proofs.objects.Objects.remove_all.Goals as goal

pub invariant_of-self : goal.invariant_of-self
invariant_of-self c = rw c.thin.ensures (ascends_left name_cmp names_total object_name (stays name_cmp object_name c.args.names.now) c.self.inside.list c.self.invariant.0, all_left (λ o. is_physical o.name) (stays name_cmp object_name c.args.names.now) c.self.inside.list c.self.invariant.1)
