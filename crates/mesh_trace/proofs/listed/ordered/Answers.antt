use Rattle.std.proofs.Common.{◌≡◌, ap, ◌∙◌, subst}
use Rattle.std.specs.BTreeSet.{IsFromIterResult}
use Rattle.std.specs.Vec.Iter.{into_iter_items}
use Rattle.mesh_trace.specs.Traces.{listed}
use Rattle.mesh_trace.proofs.Listing.{keys_alike, keys_up, pair_cmp}
use Rattle.mesh_trace.proofs.listed.ordered.Goals as goal

pub returns-clause-ascending : goal.returns-clause-ascending
returns-clause-ascending c =
    let (run, from, whole, made) = c.in_ok-set.ensures.runs tt in
    keys_up run.items c.in_ok-set.set made

pub returns-clause-exactly : goal.returns-clause-exactly
returns-clause-exactly c =
    let (run, from, whole, made) = c.in_ok-set.ensures.runs tt in
    let are = c.into_iter.ensures.runs run run.seen in
    let all : run.items ≡ c.in_ok-pairs.pairs.items = are.4 whole ∙ ap into_iter_items from ∙ c.into_iter.ensures.rest in
    keys_alike c.in_ok-pairs.pairs.items c.in_ok-set.set (listed c.args.all) (subst (λ l. IsFromIterResult pair_cmp l c.in_ok-set.set) all made) c.in_ok-pairs.ensures
