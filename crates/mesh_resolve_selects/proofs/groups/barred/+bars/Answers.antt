use Rattle.mesh_resolve_selects.specs.groups.Grouping.{Breaches, barred, barred_when}
use Rattle.mesh_resolve_selects.proofs.outputs.Loops.{some_gathered}
use Rattle.mesh_resolve_selects.proofs.groups.Parts.{then_put, both_put, of-arm, of-binary, of-between, of-one_of, of-case}
use Rattle.mesh_resolve_selects.proofs.groups.barred.+bars.Goals as goal

pub bar-returns-in_ok-bar-in-Binary : goal.bar-returns-in_ok-bar-in-Binary
bar-returns-in_ok-bar-in-Binary t c =
    then_put c.bar-in-Binary.result c.args.breaches.now _ c.bar-in-Binary.new.breaches _ _ _ c.in_ok-bar-in-Binary.ensures c.bar-in-Binary.ensures
    (of-binary c.args.e.now c.in-Binary.left c.in-Binary.right c.get.result.now c.get-in-Binary.result.now _ c.in-Binary.is c.get.ensures c.get-in-Binary.ensures)

pub bar-returns-in_ok-bar-in-Between-2 : goal.bar-returns-in_ok-bar-in-Between-2
bar-returns-in_ok-bar-in-Between-2 t c =
    then_put c.bar-in-Between-3.result c.args.breaches.now _ c.bar-in-Between-3.new.breaches _ _ _
    (both_put c.args.breaches.now _ _ _ _ c.in_ok-bar-in-Between.ensures c.in_ok-bar-in-Between-2.ensures) c.bar-in-Between-3.ensures
    (of-between c.args.e.now c.in-Between.value c.in-Between.low c.in-Between.high c.get-in-Between.result.now c.get-in-Between-2.result.now c.get-in-Between-3.result.now c.in-Between.is c.get-in-Between.ensures c.get-in-Between-2.ensures c.get-in-Between-3.ensures)

pub bar-returns-in_ok-bar-in-OneOf : goal.bar-returns-in_ok-bar-in-OneOf
bar-returns-in_ok-bar-in-OneOf t c =
    then_put c.bar_all.result c.args.breaches.now _ c.bar_all.new.breaches _ _ _ c.in_ok-bar-in-OneOf.ensures c.bar_all.ensures
    (of-one_of c.args.e.now c.in-OneOf.value c.get-in-OneOf.result.now c.in-OneOf.of c.as_slice.result.now c.in-OneOf.is c.get-in-OneOf.ensures c.as_slice.ensures)

pub bar-returns-in_ok-bar_whens-in-Case : goal.bar-returns-in_ok-bar_whens-in-Case
bar-returns-in_ok-bar_whens-in-Case t c =
    then_put c.bar-in-Case.result c.args.breaches.now _ c.bar-in-Case.new.breaches _ _ _ c.in_ok-bar_whens-in-Case.ensures c.bar-in-Case.ensures
    (of-case c.args.e.now c.in-Case.otherwise c.get-in-Case.result.now c.in-Case.whens c.as_slice-in-Case.result.now c.in-Case.is c.as_slice-in-Case.ensures c.get-in-Case.ensures)

pub bar_all-loop-e-preserved : goal.bar_all-loop-e-preserved
bar_all-loop-e-preserved t c =
    some_gathered (λ (b : Breaches). b) barred c.args.breaches.now c.loop-e.breaches c.bar.new.breaches c.args.es.now c.loop-e.e-index c.e-item.result
    c.loop-e-test.true c.e-item.is c.loop-e.invariant c.in_ok-bar.ensures

pub bar_whens-loop-w-preserved : goal.bar_whens-loop-w-preserved
bar_whens-loop-w-preserved t c =
    some_gathered (λ (b : Breaches). b) barred_when c.args.breaches.now c.loop-w.breaches c.bar-in-loop-w.new.breaches c.args.whens.now c.loop-w.w-index c.w-item.result
    c.loop-w-test.true c.w-item.is c.loop-w.invariant (of-arm c.w-item.result c.loop-w.breaches _ _ c.in_ok-bar.ensures c.in_ok-bar-2.ensures)
