use Rattle.mesh_query_grammar.proofs.Faults.{one_longest}
use Rattle.mesh_query_grammar.proofs.laws.one_longest_beginning.Goals as goal

pub returns : goal.returns
returns c = one_longest
