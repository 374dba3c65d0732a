use Rattle.std.proofs.Common.{refl}
use Rattle.mesh_query_grammar.proofs.Faults.{failed, left_over, too_deep}
use Rattle.mesh_query_grammar.proofs.laws.a_failed_run_ends_behind_the_longest_beginning.Goals as goal

pub returns-clause-failed : goal.returns-clause-failed
returns-clause-failed c = λ ts rest n d. failed d

pub returns-clause-left_over : goal.returns-clause-left_over
returns-clause-left_over c = λ ts rest k n a d. left_over k refl d

pub returns-clause-too_deep : goal.returns-clause-too_deep
returns-clause-too_deep c = λ ts rest n d. too_deep d
