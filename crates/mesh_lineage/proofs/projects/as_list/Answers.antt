use Rattle.std.proofs.Common.{[], ◌∷◌, ◌++◌, ap, sym, ◌∙◌}
use Rattle.std.proofs.lemmas.List.{map-append}
use Rattle.mesh_lineage.specs.Pairs.{as_pair}
use Rattle.mesh_lineage.proofs.projects.as_list.Goals as goal

pub loop-first-preserved : goal.loop-first-preserved
loop-first-preserved c =
    c.in_ok-push.ensures.ok ∙ ap (λ l. l ++ as_pair (c.in-Some.first, c.in-Some.second) ∷ []) c.loop-first.invariant ∙ sym (map-append as_pair c.loop-first.yielded ((c.in-Some.first, c.in-Some.second) ∷ []))
