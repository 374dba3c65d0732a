use Rattle.mesh_janitor.proofs.migrate.Maps.{moves_apart}
use Rattle.mesh_janitor.proofs.migrate.laws.a_map_without_twins_moves_the_book.Goals as goal

pub returns : goal.returns
returns c = moves_apart
