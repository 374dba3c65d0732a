use Rattle.mesh_project_files.proofs.Unique.{one_project, one_fault, never_faulty}
use Rattle.mesh_project_files.proofs.laws.files_say_one_thing.Goals as goal

pub returns-clause-one : goal.returns-clause-one
returns-clause-one c = one_project

pub returns-clause-never_both : goal.returns-clause-never_both
returns-clause-never_both c = never_faulty

pub returns-clause-one_fault : goal.returns-clause-one_fault
returns-clause-one_fault c = one_fault
