use Rattle.std.proofs.Common.{◌≡◌, ap, sym, ◌∙◌}
use Rattle.std.specs.List.{fold}
use Rattle.std.specs.Ordering.{is_lt}
use Rattle.std.proofs.lemmas.List.{take_all}
use Rattle.mesh_base_values.specs.Order.{cell_order}
use Rattle.mesh_base_values.specs.declared.values.Cell.TheVariants.{Null}
use Rattle.mesh_spec_query.specs.Aggregates.{larger}
use Rattle.mesh_eval_expressions.proofs.Steps.{fold_cells, larger_here, larger_before}
use Rattle.mesh_eval_expressions.proofs.aggregates.largest.Goals.{then-is_lt+in_ok-best, else-is_lt}
use Rattle.mesh_eval_expressions.proofs.aggregates.largest.Goals as goal

pub loop-c-preserved : goal.loop-c-preserved
loop-c-preserved c =
    let was = c.loop-c.best in
    let x = c.c-item.result in
    let test : c.is_lt.result ≡ is_lt (cell_order c.loop-c.best c.c-item.result) = c.is_lt.ensures ∙ ap is_lt (c.cell_cmp.ensures.order ∙ ap (cell_order c.loop-c.best) c.get-cell.ensures) in
    fold_cells larger Null c.args.cells.now c.loop-c.c-index x was c.if-is_lt.best c.loop-c-test.true c.c-item.is c.loop-c.invariant
    (elim c.if-is_lt.branch [
      | then-is_lt+in_ok-best w ↦ w.best-is ∙ w.in_ok-best.ensures ∙ c.get-cell.ensures ∙ larger_here was x (sym test ∙ w.if-is_lt.true)
      | else-is_lt w ↦ w.best-is ∙ larger_before was x (sym test ∙ w.if-is_lt.false)
    ])

pub returns : goal.returns
returns c = c.loop-c.invariant ∙ ap (fold larger Null) (take_all c.loop-c.c-index c.args.cells.now c.loop-c-test.false)
