use Rattle.std.proofs.Common.{◌≡◌}
use Rattle.mesh_janitor.specs.janitor.Walk.{layers}
use Rattle.mesh_janitor.proofs.janitor.kept.add_layers.Given as goal

abbrev pub invariant-loop-left : goal.invariant-loop-left
invariant-loop-left l = layers l.t l.left l.all l.wanted ≡ layers l.t l.limit l.all l.initial.wanted

abbrev pub decreases-loop-left : goal.decreases-loop-left
decreases-loop-left l = l.left
