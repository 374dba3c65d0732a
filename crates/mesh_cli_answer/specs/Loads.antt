-- A fault of loading, as a command tells it.
use Rattle.mesh_project_files.specs.declared.faults.LoadFault.{LoadFault}
use Rattle.mesh_project_files.specs.declared.faults.LoadFault.TheVariants as load
use Rattle.mesh_cli_print.specs.declared.printed.refusals.Refusal.{Refusal}
use Rattle.mesh_cli_print.specs.declared.printed.refusals.Refusal.TheVariants.{Model, Input, Memory}

-- a fault of a file is one of the project, and a folder that fails is one of the input
abbrev pub of_load : LoadFault → Refusal
of_load (load.Fault file at kind) = Model file at kind
of_load load.Folder = Input
of_load load.Memory = Memory
