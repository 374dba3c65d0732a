use Rattle.std.proofs.Common.{◌≡◌, ◌+◌, drop}
use Rattle.std.specs.Option.{option_map}
use Rattle.mesh_list.specs.Keyed.{first_at}
use Rattle.mesh_list.proofs.places.like_met_at.Given as goal

abbrev pub invariant-loop-i : goal.invariant-loop-i
invariant-loop-i g l = option_map (λ n. l.i + n) (first_at g.T.Keyed.order g.T.Keyed.key (g.T.Keyed.key l.item) (drop l.i l.items)) ≡ first_at g.T.Keyed.order g.T.Keyed.key (g.T.Keyed.key l.item) l.items
