use Rattle.mesh_exec.proofs.Books.{as_the_book_asks}
use Rattle.mesh_exec.proofs.laws.a_plan_of_a_book_makes_what_is_asked.Goals as goal

pub returns : goal.returns
returns c = as_the_book_asks
