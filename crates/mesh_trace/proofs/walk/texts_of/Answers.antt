use Rattle.std.proofs.Common.{◌≡◌, ap, ◌∙◌, subst}
use Rattle.std.specs.BTreeSet.{IsFromIterResult}
use Rattle.std.specs.Vec.Iter.{into_iter_items}
use Rattle.std.proofs.lemmas.Map.Lookups.{exact_bytes}
use Rattle.mesh_base_values.specs.Names.{text_cmp}
use Rattle.mesh_base_values.specs.NameOrder.{texts_total}
use Rattle.mesh_lineage.proofs.Alike.{set_alike}
use Rattle.mesh_trace.proofs.walk.texts_of.Goals as goal

pub returns : goal.returns
returns c =
    let (run, from, whole, made) = c.in_ok-set.ensures.runs tt in
    let are = c.into_iter.ensures.runs run run.seen in
    let all : run.items ≡ c.args.all = are.4 whole ∙ ap into_iter_items from ∙ c.into_iter.ensures.rest ∙ c.into_vec-texts.ensures in
    set_alike text_cmp texts_total exact_bytes c.args.all c.in_ok-set.set (subst (λ l. IsFromIterResult text_cmp l c.in_ok-set.set) all made)
