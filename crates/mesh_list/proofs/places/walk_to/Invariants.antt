use Rattle.std.proofs.Common.{◌≡◌, ◌+◌, drop}
use Rattle.mesh_list.specs.Keyed.{place_of}
use Rattle.mesh_list.proofs.places.walk_to.Given as goal

abbrev pub invariant-loop-i : goal.invariant-loop-i
invariant-loop-i g l = l.i + place_of g.T.Keyed.order g.T.Keyed.key (g.T.Keyed.key l.item) (drop l.i l.items) ≡ place_of g.T.Keyed.order g.T.Keyed.key (g.T.Keyed.key l.item) l.items
