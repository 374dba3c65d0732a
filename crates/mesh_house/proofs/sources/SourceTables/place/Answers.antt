use Rattle.std.proofs.Common.{not, ap}
use Rattle.mesh_base_values.specs.Names.{name_cmp}
use Rattle.mesh_house.specs.Objects.{is_physical}
use Rattle.mesh_base.specs.Keys.{input_name}
use Rattle.mesh_house.proofs.Tested.{all-placed}
use Rattle.mesh_house.proofs.sources.SourceTables.place.Goals as goal

pub invariant_of-self-2 : goal.invariant_of-self-2
invariant_of-self-2 c = rw c.in_ok-place.ensures.ok (all-placed name_cmp input_name (λ s. not (is_physical s.name)) c.args.source (ap not c.requires) c.self.inside.list c.self.invariant)
