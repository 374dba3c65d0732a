use Rattle.std.proofs.Common.{◌≡◌, ◌++◌, take, map}
use Rattle.mesh_project.specs.order.Peeled.{at_rank}
use Rattle.mesh_project.proofs.order.peel.add_all.Given as goal

abbrev pub invariant-loop-at : goal.invariant-loop-at
invariant-loop-at l = l.order ≡ l.fn.order ++ map (at_rank l.rank) (take l.at-index l.ready)
