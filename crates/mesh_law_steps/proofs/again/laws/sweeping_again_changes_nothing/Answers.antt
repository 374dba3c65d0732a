use Rattle.mesh_law_steps.proofs.again.Staying.{only_the_moment, world_stays}
use Rattle.mesh_law_steps.proofs.again.laws.sweeping_again_changes_nothing.Goals as goal

pub returns : goal.returns
returns c = record {
  changes = λ w t well. only_the_moment w.book well t;
  world = world_stays;
}
