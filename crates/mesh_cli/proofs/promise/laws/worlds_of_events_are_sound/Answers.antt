use Rattle.mesh_cli.proofs.promise.Reached.{events_sound, reached_sound}
use Rattle.mesh_cli.proofs.promise.laws.worlds_of_events_are_sound.Goals as goal

pub returns-clause-sound : goal.returns-clause-sound
returns-clause-sound c = events_sound

pub returns-clause-from_the_empty_one : goal.returns-clause-from_the_empty_one
returns-clause-from_the_empty_one c = reached_sound c.the_empty_world_is_sound.ensures
