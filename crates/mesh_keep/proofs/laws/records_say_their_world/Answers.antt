use Rattle.mesh_keep.proofs.Said.{known_is, world_is}
use Rattle.mesh_keep.proofs.laws.records_say_their_world.Goals as goal

pub returns-clause-known : goal.returns-clause-known
returns-clause-known c = known_is

pub returns-clause-whole : goal.returns-clause-whole
returns-clause-whole c = world_is
