use Rattle.std.proofs.Common.{◌∙◌, ap}
use Rattle.mesh_time.specs.Ranges.{is_apart}
use Rattle.mesh_time.proofs.Without.{each_apart, has_each}
use Rattle.mesh_time.proofs.ranges.Ranges.forget_each.Goals as goal

pub invariant_of-self : goal.invariant_of-self
invariant_of-self c = ap is_apart c.in_ok-made.ensures ∙ each_apart c.args.gone.now c.self.inside.spans c.self.invariant

pub returns-clause-seconds : goal.returns-clause-seconds
returns-clause-seconds c = λ t. rw (c.in_ok-made.ensures, c.self.view_is) (has_each c.args.gone.now c.args.self.now t)
