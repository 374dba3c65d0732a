use Rattle.mesh_query_grammar.proofs.Faults.{with_more_room}
use Rattle.mesh_query_grammar.proofs.laws.with_more_room.Goals as goal

pub returns : goal.returns
returns c = λ ts n a d. with_more_room d
