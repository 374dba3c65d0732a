use Rattle.mesh_law_query.proofs.Projects.{have_crons, find_all}
use Rattle.mesh_law_query.proofs.laws.proper_projects_find_all.Goals as goal

pub returns : goal.returns
returns c = record { crons = have_crons; found = find_all }
