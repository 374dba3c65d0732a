use Rattle.mesh_keep_house.proofs.touched.Follow.{others_stay, records_follow}
use Rattle.mesh_keep_house.proofs.touched.laws.records_follow_changes.Goals as goal

pub returns-clause-known : goal.returns-clause-known
returns-clause-known c = records_follow

pub returns-clause-others : goal.returns-clause-others
returns-clause-others c = others_stay
