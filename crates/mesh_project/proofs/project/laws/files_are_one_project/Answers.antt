use Rattle.mesh_project.proofs.project.Single.{one_project, one_fault, never_faulty}
use Rattle.mesh_project.proofs.project.laws.files_are_one_project.Goals as goal

pub returns-clause-one : goal.returns-clause-one
returns-clause-one c = one_project

pub returns-clause-one_fault : goal.returns-clause-one_fault
returns-clause-one_fault c = one_fault

pub returns-clause-never_both : goal.returns-clause-never_both
returns-clause-never_both c = never_faulty
