use Rattle.std.proofs.Common.{arith, sym, ◌∙◌, ap}
use Rattle.std.specs.Ordering.{is_gt}
use Rattle.mesh_list.proofs.Standing.{front_below, not_in_front, place_within}
use Rattle.mesh_house.specs.Outside.{itself}
use Rattle.mesh_house.proofs.Thinned.{is_below}
use Rattle.mesh_house.proofs.outside.seek.Goals as goal

pub loop-low-init : goal.loop-low-init
loop-low-init g c = record {
  above = omega arith;
  below = place_within g.T.Keyed.order itself (g.T.Keyed.key c.args.item.now) c.args.keys.now;
  within = omega arith;
}

pub loop-low-preserved-then-is_gt : goal.loop-low-preserved-then-is_gt
loop-low-preserved-then-is_gt g c =
    let k = g.T.Keyed.key c.args.item.now in
    let reached = front_below g.T.Keyed.order itself k g.met.T.Keyed.total c.args.keys.now _ c.index-keys-middle.result c.requires (omega arith) c.index-keys-middle.is (sym (is_below g.T.Keyed.order g.met.T.Keyed.total k c.index-keys-middle.result) ∙ ap is_gt (sym c.compare.ensures) ∙ sym c.is_gt.ensures ∙ c.if-is_gt.true) in
    record {
      above = omega (reached, arith);
      below = c.loop-low.invariant.below;
      within = c.loop-low.invariant.within;
    }

pub loop-low-preserved : goal.loop-low-preserved
loop-low-preserved g c =
    let k = g.T.Keyed.key c.args.item.now in
    let passed = not_in_front g.T.Keyed.order itself k c.args.keys.now _ c.index-keys-middle.result (omega arith) c.index-keys-middle.is (sym (is_below g.T.Keyed.order g.met.T.Keyed.total k c.index-keys-middle.result) ∙ ap is_gt (sym c.compare.ensures) ∙ sym c.is_gt.ensures ∙ c.if-is_gt.false) in
    record {
      above = c.loop-low.invariant.above;
      below = passed;
      within = omega arith;
    }
