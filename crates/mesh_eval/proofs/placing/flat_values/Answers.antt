use Rattle.std.proofs.Common.{◌++◌, ◌∷◌, [], ◌<◌, length, map, take, get_or, sym, ap, ap₂, subst, ◌∙◌}
use Rattle.std.proofs.lemmas.List.{map-append, take_more}
use Rattle.mesh_eval.specs.Placed.{values_at}
use Rattle.mesh_eval.proofs.placing.flat_values.Goals as goal

pub loop-at-preserved : goal.loop-at-preserved
loop-at-preserved c =
    let f = values_at c.args.all.now in
    let rows = c.args.rows.now.rows in
    let at = c.loop-at.at in
    let i = c.loop-at.invariant in
    let lt : at < length rows = subst (λ n. at < n) c.len-at-end.ensures c.loop-at-test.true in (
      c.in_ok-add_values.ensures.rows ∙ ap₂ (λ a v. a ++ v ∷ []) i.0 (ap f c.at.ensures.row)
          ∙ sym (map-append f (take at rows) (get_or rows at [] ∷ [])) ∙ ap (map f) (sym (take_more rows at [] lt)),
      c.in_ok-add_values.ensures.width ∙ i.1,
    )
