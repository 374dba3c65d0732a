use Rattle.mesh_law_steps.proofs.sweep.Loading.{load_along}
use Rattle.mesh_law_steps.proofs.sweep.laws.loads_keep_the_world_sound.Goals as goal

pub returns : goal.returns
returns c = load_along
