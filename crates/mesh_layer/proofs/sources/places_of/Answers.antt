use Rattle.std.proofs.Common.{[], ◌∷◌, ◌++◌, sym, ◌∙◌, arith}
use Rattle.mesh_layer.proofs.Placing.{places_of-more}
use Rattle.mesh_layer.proofs.sources.places_of.Goals as goal

pub loop-column-preserved : goal.loop-column-preserved
loop-column-preserved c =
    c.in_ok-push.ensures.items
    ∙ (λ i. c.loop-column.invariant i ++ c.place_of.ensures i ∷ [])
    ∙ sym (places_of-more c.args.columns.now c.args.declared.now c.loop-column.column-index c.column-item.result (omega arith) c.column-item.is)
