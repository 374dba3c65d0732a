use Rattle.std.proofs.Common.{◌++◌, ◌∷◌, [], List, length, arith, ap, sym, subst, length-append}
use Rattle.mesh_spec_model.specs.Closures.{closures}
use Rattle.mesh_lineage.specs.Alike.{IsAlike}
use Rattle.mesh_trace.specs.Asks.{Ask, all_fed}
use Rattle.mesh_trace.specs.declared.traces.Trace.{Trace}
use Rattle.mesh_trace.proofs.Sets.{alike_then}
use Rattle.mesh_trace.proofs.Visiting.{all_visited}
use Rattle.mesh_trace.proofs.walk.walk.Goals as goal

pub loop-ask-preserved : goal.loop-ask-preserved
loop-ask-preserved c =
    let cs = closures c.args.nodes.now in
    let before : List Ask = c.loop-ask.rest.items in
    let front : List Ask = c.pop.new.self.items in
    let whole : List Trace = c.loop-ask.found ++ all_fed before cs in
    record {
      long = omega (arith, c.in_ok-visit.ensures.long, c.loop-ask.invariant.long, length-append front (c.in-Some.ask ∷ []), ap length c.in-Some.ensures.items);
      fed = alike_then (c.visit.new.found ++ all_fed c.visit.new.asks.items cs) whole (c.args.found.now ++ all_fed c.args.asks.items cs)
          (subst (λ (l : List Ask). IsAlike (c.visit.new.found ++ all_fed c.visit.new.asks.items cs) (c.loop-ask.found ++ all_fed l cs)) (sym c.in-Some.ensures.items) c.in_ok-visit.ensures.fed)
          c.loop-ask.invariant.fed;
    }

pub returns : goal.returns
returns c =
    let cs = closures c.args.nodes.now in
    all_visited c.loop-ask.rest.items cs c.loop-ask.found (c.args.found.now ++ all_fed c.args.asks.items cs) (omega (arith, c.in_default.ensures.cases.0, c.loop-ask.rest.ok.0)) c.loop-ask.invariant.fed
