use Rattle.std.proofs.Common.{arith, sym, ap, ◌∙◌}
use Rattle.std.specs.Ordering.{is_eq}
use Rattle.mesh_list.proofs.Standing.{has_it, lacks_it, passes_all}
use Rattle.mesh_list.proofs.places.stands_at.Goals as goal

pub returns-then-at-items : goal.returns-then-at-items
returns-then-at-items g c = passes_all g.T.Keyed.order g.met.T.Keyed.total g.T.Keyed.key c.args.key.now c.args.items.now c.seek-at.result c.seek-at.ensures.place (omega arith)

pub returns-then-is_eq : goal.returns-then-is_eq
returns-then-is_eq g c = has_it g.T.Keyed.order g.met.T.Keyed.total g.T.Keyed.key c.args.key.now c.args.items.now c.seek-at.result c.seek-at.ensures.place c.index-items-at.result (omega arith) c.index-items-at.is (ap is_eq (sym c.compare.ensures) ∙ sym c.is_eq.ensures ∙ c.if-is_eq.true)

pub returns : goal.returns
returns g c = lacks_it g.T.Keyed.order g.met.T.Keyed.total g.T.Keyed.key c.args.key.now c.args.items.now c.seek-at.result c.seek-at.ensures.place c.index-items-at.result c.requires (omega arith) c.index-items-at.is (ap is_eq (sym c.compare.ensures) ∙ sym c.is_eq.ensures ∙ c.if-is_eq.false)
