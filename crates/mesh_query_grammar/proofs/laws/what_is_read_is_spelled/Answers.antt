use Rattle.mesh_query_grammar.proofs.Faults.{is_spelled, as_read}
use Rattle.mesh_query_grammar.proofs.laws.what_is_read_is_spelled.Goals as goal

pub returns : goal.returns
returns c = λ ts n a. (is_spelled, as_read)
