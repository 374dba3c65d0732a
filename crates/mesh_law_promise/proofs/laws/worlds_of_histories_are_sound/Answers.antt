use Rattle.mesh_law_promise.proofs.Promise.{history_sound}
use Rattle.mesh_law_promise.proofs.laws.worlds_of_histories_are_sound.Goals as goal

pub returns : goal.returns
returns c = λ w x h. history_sound c.the_empty_world_is_sound.ensures h
