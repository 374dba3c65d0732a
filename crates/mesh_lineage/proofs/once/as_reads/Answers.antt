use Rattle.std.proofs.Common.{[], ◌∷◌, ◌++◌, ap, sym, ◌∙◌}
use Rattle.std.proofs.lemmas.List.{map-append}
use Rattle.mesh_lineage.specs.Pairs.{as_reading}
use Rattle.mesh_lineage.proofs.once.as_reads.Goals as goal

pub loop-relation-preserved : goal.loop-relation-preserved
loop-relation-preserved c =
    c.in_ok-push.ensures.ok ∙ ap (λ l. l ++ as_reading (c.in-Some.relation, c.in-Some.column) ∷ []) c.loop-relation.invariant ∙ sym (map-append as_reading c.loop-relation.yielded ((c.in-Some.relation, c.in-Some.column) ∷ []))
