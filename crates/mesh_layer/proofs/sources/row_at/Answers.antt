use Rattle.std.proofs.Common.{[], ◌∷◌, ◌++◌, sym, ◌∙◌, arith}
use Rattle.mesh_layer.proofs.Placing.{row_at-more}
use Rattle.mesh_layer.proofs.sources.row_at.Goals as goal

pub loop-place-preserved : goal.loop-place-preserved
loop-place-preserved c =
    let made = c.in_ok-push_made.ensures in
    let cell = rw made.1 at c.cell_at.ensures in
    made.2
    ∙ (λ i. c.loop-place.invariant i ++ cell i ∷ [])
    ∙ sym (row_at-more c.args.row.now c.args.places.now c.loop-place.place-index _ (omega arith))
