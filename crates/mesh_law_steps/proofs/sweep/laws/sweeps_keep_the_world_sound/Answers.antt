use Rattle.mesh_law_steps.proofs.sweep.Sweeping.{sweep_along}
use Rattle.mesh_law_steps.proofs.sweep.laws.sweeps_keep_the_world_sound.Goals as goal

pub returns : goal.returns
returns c = sweep_along
