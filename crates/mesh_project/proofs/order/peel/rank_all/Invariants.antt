use Rattle.std.proofs.Common.{◌≡◌, take}
use Rattle.mesh_project.specs.order.Peeled.{ranks_with}
use Rattle.mesh_project.proofs.order.peel.rank_all.Given as goal

abbrev pub invariant-loop-at : goal.invariant-loop-at
invariant-loop-at l = l.ranks.items ≡ ranks_with l.fn.ranks.items (take l.at-index l.ready) l.rank
