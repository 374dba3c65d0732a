use Rattle.std.proofs.Common.{◌≡◌, length}
use Rattle.mesh_resolve.specs.Owns.{in_order}
use Rattle.mesh_resolve.proofs.Onto.{onto}
use Rattle.mesh_resolve.proofs.sources.in_order.Given as goal

abbrev pub invariant-loop-d : goal.invariant-loop-d
invariant-loop-d l = onto l.rest.items l.made.items ≡ in_order l.initial.rest.items

abbrev pub decreases-loop-d : goal.decreases-loop-d
decreases-loop-d l = length l.rest.items
