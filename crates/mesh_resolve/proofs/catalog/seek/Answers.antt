use Rattle.std.proofs.Common.{arith, sym, ◌∙◌, ap}
use Rattle.std.specs.Ordering.{is_lt}
use Rattle.mesh_list.proofs.Standing.{front_below, not_in_front, place_within}
use Rattle.mesh_base_values.specs.declared.values.Name.{Name}
use Rattle.mesh_base_values.specs.Names.{name_cmp}
use Rattle.mesh_base_values.specs.NameOrder.{names_total}
use Rattle.mesh_resolve.proofs.catalog.seek.Goals as goal

pub loop-low-init : goal.loop-low-init
loop-low-init g c = record {
  above = omega arith;
  below = place_within name_cmp g.T.Named.called c.args.name.now c.args.items.now;
  within = omega arith;
}

pub loop-low-preserved-then-is_lt : goal.loop-low-preserved-then-is_lt
loop-low-preserved-then-is_lt g c =
    let reached = front_below name_cmp g.T.Named.called c.args.name.now names_total c.args.items.now _ c.index-items-middle.result c.requires (omega arith) c.index-items-middle.is (ap (λ (n : Name). is_lt (name_cmp n c.args.name.now)) (sym c.called.ensures) ∙ ap is_lt (sym c.compare.ensures) ∙ sym c.is_lt.ensures ∙ c.if-is_lt.true) in
    record {
      above = omega (reached, arith);
      below = c.loop-low.invariant.below;
      within = c.loop-low.invariant.within;
    }

pub loop-low-preserved : goal.loop-low-preserved
loop-low-preserved g c =
    let passed = not_in_front name_cmp g.T.Named.called c.args.name.now c.args.items.now _ c.index-items-middle.result (omega arith) c.index-items-middle.is (ap (λ (n : Name). is_lt (name_cmp n c.args.name.now)) (sym c.called.ensures) ∙ ap is_lt (sym c.compare.ensures) ∙ sym c.is_lt.ensures ∙ c.if-is_lt.false) in
    record {
      above = c.loop-low.invariant.above;
      below = passed;
      within = omega arith;
    }
