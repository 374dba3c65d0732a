use Rattle.std.proofs.Common.{◌++◌, ◌∷◌, [], ◌<◌, length, map, take, get_or, sym, ap, ap₂, subst, ◌∙◌}
use Rattle.std.proofs.lemmas.List.{map-append, take_more}
use Rattle.mesh_eval.specs.Placed.{values_at}
use Rattle.mesh_eval.proofs.placing.value_rows.Goals as goal

pub loop-at-preserved : goal.loop-at-preserved
loop-at-preserved c =
    let p = c.in_ok-push_made.ensures in
    let f = values_at c.args.all.now in
    let rows = c.args.rows.now.rows in
    let at = c.loop-at.at in
    let lt : at < length rows = subst (λ n. at < n) c.len-at-end.ensures c.loop-at-test.true in
    let value = rw p.1 at c.values_at.ensures in
    p.2 ∙ ap₂ (λ a v. a ++ v ∷ []) c.loop-at.invariant (value ∙ ap f c.at.ensures.row)
    ∙ sym (map-append f (take at rows) (get_or rows at [] ∷ [])) ∙ ap (map f) (sym (take_more rows at [] lt))
