use Rattle.std.proofs.Common.{rules, w64, ◌≡◌, ◌++◌, ◌∷◌, [], ℤ, List, FitsSigned, ap, ◌∙◌, arith, length-append}
use Rattle.std.specs.Prelude.{map}
use Rattle.std.proofs.lemmas.Int.{to_z-of_z}
use Rattle.std.proofs.lemmas.List.{take_all}
use Rattle.std.proofs.lemmas.List.Elements.{All-push}
use Rattle.mesh_base.specs.declared.snapshots.Node.{Node}
use Rattle.mesh_spec_model.specs.Closures.{closures}
use Rattle.mesh_spec_model.specs.Horizons.{horizon}
use Rattle.mesh_plan_due.specs.Least.{IsHorizon, least_at}
use Rattle.mesh_plan_due.proofs.Least.{horizons_more, timeds_more}
use Rattle.mesh_plan_due.proofs.horizons.horizons_of.Goals as goal

pub loop-node-preserved : goal.loop-node-preserved
loop-node-preserved c =
    let nodes : List Node = c.args.nodes.now in
    let n : Node = c.node-item.result in
    let h : ℤ = c.horizon_over-horizon.result in
    let t_fits : FitsSigned w64 c.args.t = search rules in
    let tick_fits : FitsSigned w64 c.last_tick-tick.result = search rules in
    let h_fits : FitsSigned w64 c.horizon_over-horizon.result = search rules in
    let pushed = simp to_z-of_z at c.in_ok-push.ensures.ok in
    let over = simp to_z-of_z at c.timed_over.ensures in
    let is = simp to_z-of_z at c.horizon_over-horizon.ensures.value in
    let ticks = simp to_z-of_z at c.last_tick-tick.ensures.tick in
    let hs = simp to_z-of_z at c.loop-node.invariant.horizons in
    let ts = simp to_z-of_z at c.loop-node.invariant.timed in
    let second : c.least_at-least.result ≡ least_at c.loop-node.timed.items n.parents = c.least_at-least.ensures ∙ (λ k. least_at (c.deref.ensures.value k) (c.as_slice.ensures k)) in
    simp to_z-of_z (record {
      horizons = λ clock s. pushed ∙ horizons_more clock nodes c.loop-node.node-index n c.loop-node-test.true c.node-item.is c.loop-node.timed.items (ts clock s) _ (ticks clock s) _ c.is_incremental-incremental.ensures _ second h is c.loop-node.list (hs clock s);
      timed = λ clock s. c.in_ok-push-2.ensures.items ∙ ap (λ x. c.loop-node.timed.items ++ x ∷ []) over
          ∙ timeds_more clock nodes c.loop-node.node-index n c.loop-node-test.true c.node-item.is c.loop-node.timed.items (ts clock s) _ (ticks clock s) _ c.is_incremental-incremental.ensures _ second h is;
      bound = rw pushed (All-push IsHorizon c.loop-node.list h c.loop-node.invariant.bound c.horizon_over-horizon.ensures.bound);
      long = rw pushed (omega (arith, length-append c.loop-node.list (h ∷ []), c.loop-node.invariant.long));
    })

pub returns-clause-horizons : goal.returns-clause-horizons
returns-clause-horizons c clock s =
    let t_fits : FitsSigned w64 c.args.t = search rules in
    let hs = simp to_z-of_z at c.loop-node.invariant.horizons in
    hs clock s ∙ ap (λ l. map (horizon clock) (closures l)) (take_all c.loop-node.node-index c.args.nodes.now c.loop-node-test.false)
