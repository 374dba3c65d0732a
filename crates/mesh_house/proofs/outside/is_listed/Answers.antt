use Rattle.std.proofs.Common.{arith, sym, ap, ◌∙◌}
use Rattle.std.specs.Ordering.{is_eq}
use Rattle.mesh_house.proofs.Thinned.{found_none, found_here}
use Rattle.mesh_house.proofs.outside.is_listed.Goals as goal

pub returns-then-at-keys : goal.returns-then-at-keys
returns-then-at-keys g c = sym (found_none g.T.Keyed.order g.met.T.Keyed.total (g.T.Keyed.key c.args.item.now) c.args.keys.now c.seek-at.result c.seek-at.ensures.place (omega arith))

pub returns : goal.returns
returns g c = c.is_eq.ensures ∙ ap is_eq c.compare.ensures ∙ sym (found_here g.T.Keyed.order g.met.T.Keyed.total (g.T.Keyed.key c.args.item.now) c.args.keys.now c.seek-at.result c.seek-at.ensures.place c.index-keys-at.result c.requires (omega arith) c.index-keys-at.is)
