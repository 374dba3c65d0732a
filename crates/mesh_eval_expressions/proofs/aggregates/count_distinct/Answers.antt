use Rattle.std.proofs.Common.{◌≡◌, ap, ◌∙◌, subst}
use Rattle.std.specs.BTreeSet.{IsFromIterResult}
use Rattle.std.specs.Vec.Iter.{into_iter_items}
use Rattle.mesh_eval_expressions.proofs.Counted.{counted, lent_cmp}
use Rattle.mesh_eval_expressions.proofs.aggregates.count_distinct.Goals as goal

pub returns-clause-value : goal.returns-clause-value
returns-clause-value c =
    let (run, from, whole, made) = c.in_ok-set.ensures.runs tt in
    let are = c.into_iter.ensures.runs run run.seen in
    let all : run.items ≡ c.in_ok-all.all.items = are.4 whole ∙ ap into_iter_items from ∙ c.into_iter.ensures.rest in
    c.len.ensures.len ∙ counted c.in_ok-all.all.items c.in_ok-set.set _ (subst (λ l. IsFromIterResult lent_cmp l c.in_ok-set.set) all made) c.in_ok-all.ensures
