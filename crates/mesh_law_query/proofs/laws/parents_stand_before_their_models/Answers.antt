use Rattle.mesh_law_query.proofs.Projects.{stand_before, closures_there}
use Rattle.mesh_law_query.proofs.laws.parents_stand_before_their_models.Goals as goal

pub returns : goal.returns
returns c = record { earlier = stand_before; closures = closures_there }
