use Rattle.std.proofs.Common.{◌++◌, ◌∷◌, [], List, ap, sym, ◌∙◌, arith}
use Rattle.std.proofs.lemmas.Result.{on_ok_weaker}
use Rattle.mesh_spec_model.specs.Closures.{closures}
use Rattle.mesh_lineage.proofs.Alike.{equal_alike}
use Rattle.mesh_trace.specs.Asks.{Ask, all_fed}
use Rattle.mesh_trace.proofs.Both.{on_ok_both}
use Rattle.mesh_trace.proofs.Visiting.{none_more, visit_fed, visit_long}
use Rattle.mesh_trace.proofs.walk.visit.Goals as goal

pub returns-in-None-clause-fed : goal.returns-in-None-clause-fed
returns-in-None-clause-fed c =
    let cs = closures c.args.nodes.now in
    let asks : List Ask = c.args.asks.now.items in
    equal_alike (c.args.found.now ++ all_fed asks cs) (c.args.found.now ++ all_fed (asks ++ c.args.ask ∷ []) cs)
    (ap (λ l. c.args.found.now ++ l) (sym (none_more asks cs) ∙ ap (λ (a : Ask). all_fed (asks ++ a ∷ []) cs) (sym c.in-None.is)))

pub returns-in-Some-clause-long : goal.returns-in-Some-clause-long
returns-in-Some-clause-long c =
    on_ok_weaker c.add_model.result
    (λ e. visit_long c.args.nodes.now c.requires.proper c.args.asks.now.items c.add_model.new.asks.items c.len.result c.index-nodes-len.result (omega (arith, c.len.ensures, c.args.asks.now.ok.0)) c.requires.within c.index-nodes-len.is c.in-Some.columns e)
    c.add_model.ensures.asks

pub returns-in-Some-clause-fed : goal.returns-in-Some-clause-fed
returns-in-Some-clause-fed c =
    on_ok_both c.add_model.result
    (λ e f. visit_fed c.args.nodes.now c.requires.proper c.args.asks.now.items c.add_model.new.asks.items c.len.result c.index-nodes-len.result (omega (arith, c.len.ensures, c.args.asks.now.ok.0)) c.requires.within c.index-nodes-len.is c.in-Some.columns e
    c.args.ask c.in-Some.is c.args.found.now c.add_model.new.found f)
    c.add_model.ensures.asks c.add_model.ensures.found
