use Rattle.mesh_law_changes.proofs.Migrating.{book_moved}
use Rattle.mesh_law_changes.proofs.laws.migrating_keeps_the_world_sound.Goals as goal

pub returns : goal.returns
returns c = book_moved
