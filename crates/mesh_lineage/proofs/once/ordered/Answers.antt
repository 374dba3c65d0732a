use Rattle.std.proofs.Common.{◌≡◌, ap, ◌∙◌, subst}
use Rattle.std.specs.BTreeSet.{IsFromIterResult}
use Rattle.std.specs.Vec.Iter.{into_iter_items}
use Rattle.mesh_lineage.proofs.Orders.{pair_cmp, set_order}
use Rattle.mesh_lineage.proofs.once.ordered.Goals as goal

pub returns : goal.returns
returns c =
    let (run, from, whole, made) = c.in_ok-set.ensures.runs tt in
    let are = c.into_iter.ensures.runs run run.seen in
    let all : run.items ≡ c.in_ok-pairs.pairs.items = are.4 whole ∙ ap into_iter_items from ∙ c.into_iter.ensures.rest in
    set_order c.in_ok-pairs.pairs.items c.in_ok-set.set c.args.all (subst (λ l. IsFromIterResult pair_cmp l c.in_ok-set.set) all made) c.in_ok-pairs.ensures
