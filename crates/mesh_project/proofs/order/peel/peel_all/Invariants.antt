use Rattle.std.proofs.Common.{length}
use Rattle.mesh_project.specs.order.Peeled.{IsPeeled}
use Rattle.mesh_project.proofs.order.peel.peel_all.Given as goal

abbrev pub invariant-each_rank : goal.invariant-each_rank
invariant-each_rank l = IsPeeled l.models l.links l.peeled.ranks.items l.peeled.order l.peeled.rest l.rank

abbrev pub decreases-each_rank : goal.decreases-each_rank
decreases-each_rank l = length l.peeled.rest
