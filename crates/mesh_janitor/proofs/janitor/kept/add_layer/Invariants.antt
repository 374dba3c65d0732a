use Rattle.std.proofs.Common.{◌≡◌, drop}
use Rattle.mesh_janitor.specs.janitor.Walk.{layer}
use Rattle.mesh_janitor.proofs.janitor.kept.add_layer.Given as goal

abbrev pub invariant-loop-s : goal.invariant-loop-s
invariant-loop-s l = layer l.t l.rank (drop l.s-index l.all) l.wanted ≡ layer l.t l.rank l.all l.initial.wanted
