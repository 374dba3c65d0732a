-- The tables that are read for the parts of a plan.
use Rattle.std.specs.Prelude.{Bool, true, false, List, [], Some}
use Rattle.std.specs.declared.option.Option.{Option}
use Rattle.mesh_base.specs.declared.jobs.Input.{Input}
use Rattle.mesh_house.specs.declared.world.World.{World}
use Rattle.mesh_spec_changes.specs.due.Plans.{Planned}
use Rattle.mesh_spec_changes.specs.Changes.{parent_table, tables_for}
use Rattle.mesh_exec_works.specs.declared.works.Work.{Work}
use Rattle.mesh_exec_works.specs.Dues.{is_any}
use Rattle.mesh_exec_works.specs.Plain.{model_of, work_model}
use Rattle.mesh_exec_works.specs.Works.{Part}

abbrev pub work_table : World → Work → Option Input
work_table w k = parent_table w (work_model k)

-- where nothing is due, no table is read
abbrev pub tables_if : Bool → World → List Planned → Planned → Option (List Input)
tables_if false w all p = Some []
tables_if true w all p = tables_for w all p p.node.own.kind

abbrev pub part_tables : World → List Planned → Part → Option (List Input)
part_tables w all p = tables_if (is_any p.dues) w all (model_of p.node p.entry)
