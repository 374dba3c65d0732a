use Rattle.mesh_janitor.proofs.migrate.Maps.{one_map}
use Rattle.mesh_janitor.proofs.migrate.laws.a_book_has_one_map.Goals as goal

pub returns : goal.returns
returns c = λ b one other well is_one is_other. one_map b well one other is_one is_other
