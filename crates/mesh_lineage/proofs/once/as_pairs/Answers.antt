use Rattle.std.proofs.Common.{[], ◌∷◌, ◌++◌, ap, ◌∙◌}
use Rattle.std.proofs.lemmas.List.{map-append}
use Rattle.mesh_lineage.specs.Pairs.{as_reading, as_readings}
use Rattle.mesh_lineage.proofs.once.as_pairs.Goals as goal

pub loop-reading-preserved : goal.loop-reading-preserved
loop-reading-preserved c =
    let reading = c.in-Some.reading in
    ap as_readings c.in_ok-push.ensures.items ∙ map-append as_reading c.loop-reading.made.items ((reading.relation, reading.column) ∷ [])
    ∙ ap (λ l. l ++ reading ∷ []) c.loop-reading.invariant
