use Rattle.std.proofs.Common.{[], ◌∷◌, ◌++◌, ap, sym, ◌∙◌}
use Rattle.std.proofs.lemmas.List.{map-append}
use Rattle.mesh_trace.specs.Pairs.{as_trace}
use Rattle.mesh_trace.proofs.listed.as_list.Goals as goal

pub loop-relation-preserved : goal.loop-relation-preserved
loop-relation-preserved c =
    c.in_ok-push.ensures.ok ∙ ap (λ l. l ++ as_trace (c.in-Some.relation, c.in-Some.column) ∷ []) c.loop-relation.invariant ∙ sym (map-append as_trace c.loop-relation.yielded ((c.in-Some.relation, c.in-Some.column) ∷ []))
