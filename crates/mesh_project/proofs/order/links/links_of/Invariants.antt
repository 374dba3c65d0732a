use Rattle.std.proofs.Common.{◌≡◌, map, take}
use Rattle.std.specs.List.{filter_map}
use Rattle.std.specs.BTreeMap.{get}
use Rattle.mesh_base_values.specs.Names.{name_cmp}
use Rattle.mesh_project.specs.declared.order.readers.Reader.{Reader}
use Rattle.mesh_project.proofs.order.links.links_of.Given as goal

abbrev pub invariant-loop-model : goal.invariant-loop-model
invariant-loop-model l = l.made ≡ map (λ (r : Reader). filter_map (get name_cmp l.places) r.reads) (take l.model-index l.models)
