use Rattle.mesh_query_grammar.proofs.Faults.{one_tree}
use Rattle.mesh_query_grammar.proofs.laws.one_tree.Goals as goal

pub returns : goal.returns
returns c = λ ts n m a b d g. one_tree d g
