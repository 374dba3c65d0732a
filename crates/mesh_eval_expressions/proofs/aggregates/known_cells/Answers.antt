use Rattle.std.proofs.Common.{ap, map, sym, ◌∙◌}
use Rattle.std.specs.Borrow.{Bor}
use Rattle.std.proofs.lemmas.List.{take_all}
use Rattle.mesh_base_values.specs.declared.values.Cell.{Cell}
use Rattle.mesh_spec_query.specs.Aggregates.{known}
use Rattle.mesh_spec_query.specs.Cells.{is_null}
use Rattle.mesh_eval_expressions.proofs.Steps.{known_pushed, known_passed}
use Rattle.mesh_eval_expressions.proofs.aggregates.known_cells.Goals.{then-not-is_null+in_ok-push, else-not-is_null}
use Rattle.mesh_eval_expressions.proofs.aggregates.known_cells.Goals as goal

pub loop-cell-preserved : goal.loop-cell-preserved
loop-cell-preserved c =
    let null = sym (c.is_null.ensures ∙ ap is_null c.get.ensures) in
    elim c.if-not-is_null.branch [
      | then-not-is_null+in_ok-push w ↦
          (ap (λ v. map (λ (c : Bor Cell). c.now) v.items) w.made-is
          ∙ known_pushed c.args.cells.now c.loop-cell.cell-index c.cell-item.result c.loop-cell.made.items _ _ c.loop-cell-test.true c.cell-item.is c.loop-cell.invariant (null ∙ w.if-not-is_null.true) w.get-then-not-is_null.ensures w.in_ok-push.ensures.items)
      | else-not-is_null w ↦
          (ap (λ v. map (λ (c : Bor Cell). c.now) v.items) w.made-is
          ∙ known_passed c.args.cells.now c.loop-cell.cell-index c.cell-item.result (map (λ (c : Bor Cell). c.now) c.loop-cell.made.items) c.loop-cell-test.true c.cell-item.is c.loop-cell.invariant (null ∙ w.if-not-is_null.false))
    ]

pub returns : goal.returns
returns c = c.loop-cell.invariant ∙ ap known (take_all c.loop-cell.cell-index c.args.cells.now c.loop-cell-test.false)
