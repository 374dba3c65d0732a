-- Which object dangles where the tables that models read are looked up: the first, in their order.
use Rattle.std.specs.Prelude.{Bool, true, false, ◌&&◌, List, map, None}
use Rattle.std.specs.declared.option.Option.{Option}
use Rattle.mesh_base_values.specs.declared.values.Name.{Name}
use Rattle.mesh_spec_changes.specs.due.Marks.{is_computed}
use Rattle.mesh_spec_changes.specs.due.Plans.{Planned}
use Rattle.mesh_house.specs.declared.world.World.{World}
use Rattle.mesh_layer.specs.Lost.{first_of, lost_object}
use Rattle.mesh_exec_works.specs.declared.works.Work.{Work}
use Rattle.mesh_exec_works.specs.Dues.{is_any}
use Rattle.mesh_exec_works.specs.Works.{Part}
use Rattle.mesh_exec_works.specs.Plain.{parents_at, work_model}

abbrev pub lost_parent : World → Planned → Option Name
lost_parent w p = lost_object w p.object

abbrev pub lost_parents : World → List Planned → Option Name
lost_parents w ps = first_of (map (lost_parent w) ps)

abbrev pub lost_if : Bool → World → List Planned → Option Name
lost_if false w ps = None
lost_if true w ps = lost_parents w ps

-- a part without anything due reads nothing, and neither does one of a seed or a view
abbrev pub reads : Part → Bool
reads p = is_any p.dues && is_computed p.node.own.kind

abbrev pub lost_part : World → List Planned → Part → Option Name
lost_part w all p = lost_if (reads p) w (parents_at all p.node.parents)

abbrev pub lost_work : World → Work → Option Name
lost_work w k = lost_parent w (work_model k)
