use Rattle.std.proofs.Common.{◌≡◌, ◌+◌, true, false, ap, sym, ◌∙◌, arith}
use Rattle.mesh_spec_query.specs.Cells.{is_null}
use Rattle.mesh_eval_expressions.proofs.Steps.{known_counted}
use Rattle.mesh_eval_expressions.proofs.aggregates.count_known.Goals.{then-not-is_null, else-not-is_null}
use Rattle.mesh_eval_expressions.proofs.aggregates.count_known.Goals as goal

pub loop-cell-preserved : goal.loop-cell-preserved
loop-cell-preserved c =
    let null = sym (c.is_null.ensures ∙ ap is_null c.get.ensures) in
    let same : c.loop-cell.count ≡ c.loop-cell.count + 0 = omega arith in
    record {
      known =
          elim c.if-not-is_null.branch [
            | then-not-is_null w ↦ known_counted c.args.cells.now c.loop-cell.cell-index c.cell-item.result false c.loop-cell.count c.if-not-is_null.count c.loop-cell-test.true c.cell-item.is c.loop-cell.invariant.known (null ∙ w.if-not-is_null.true) w.count-is
            | else-not-is_null w ↦ known_counted c.args.cells.now c.loop-cell.cell-index c.cell-item.result true c.loop-cell.count c.if-not-is_null.count c.loop-cell-test.true c.cell-item.is c.loop-cell.invariant.known (null ∙ w.if-not-is_null.false) (w.count-is ∙ same)
          ];
      most =
          elim c.if-not-is_null.branch [
            | then-not-is_null w ↦ omega (arith, w.count-is, c.loop-cell.invariant.most)
            | else-not-is_null w ↦ omega (arith, w.count-is, c.loop-cell.invariant.most)
          ];
    }
