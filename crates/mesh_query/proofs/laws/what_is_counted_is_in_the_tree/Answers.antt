use Rattle.mesh_query.proofs.Weights.{as_counted}
use Rattle.mesh_query.proofs.laws.what_is_counted_is_in_the_tree.Goals as goal

pub returns : goal.returns
returns c = λ n left ts rest tree d. as_counted d
