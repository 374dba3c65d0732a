use Rattle.std.proofs.Common.{◌≡◌, drop}
use Rattle.mesh_layer.specs.Places.{are_in_order}
use Rattle.mesh_layer.proofs.sources.are_in_order.Given as goal

-- the places so far are in order
abbrev pub invariant-loop-i : goal.invariant-loop-i
invariant-loop-i l = are_in_order l.i (drop l.i l.places) ≡ are_in_order 0 l.places
