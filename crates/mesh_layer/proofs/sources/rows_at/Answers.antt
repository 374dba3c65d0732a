use Rattle.std.proofs.Common.{[], ◌∷◌, ◌++◌, sym, ◌∙◌, arith}
use Rattle.mesh_layer.proofs.Placing.{rows_at-more}
use Rattle.mesh_layer.proofs.sources.rows_at.Goals as goal

pub loop-row-preserved : goal.loop-row-preserved
loop-row-preserved c =
    let made = c.in_ok-push_made.ensures in
    let row = rw made.1 at c.row_at.ensures in
    made.2
    ∙ (λ i. c.loop-row.invariant i ++ row i ∷ [])
    ∙ sym (rows_at-more c.args.rows.now c.args.places.now c.loop-row.row-index c.row-item.result (omega arith) c.row-item.is)
