use Rattle.std.proofs.Common.{◌≡◌, List, ◌++◌, ◌∷◌, [], length, ap, sym, ◌∙◌, arith, length-append}
use Rattle.mesh_base_values.specs.declared.values.Cell.{Cell}
use Rattle.mesh_eval_rows.proofs.joins.index.OneOfEach.{kept-step, taken_front}
use Rattle.mesh_eval_rows.proofs.joins.index.distinct.kept.Goals as goal

pub loop-row-preserved : goal.loop-row-preserved
loop-row-preserved c =
    let yielded : List (List Cell) = c.loop-row.yielded in
    let front : c.args.rows ≡ yielded ++ c.in-Some.row ∷ c.next.new.self.rest.items =
    sym c.into_vec-row-items.ensures ∙ (sym c.into_iter-row-iterator.ensures.into_iter_gives.0 ∙ taken_front c.into_iter-row-iterator.result yielded c.loop-row.row-iterator c.loop-row.yielded_by) ∙ ap (λ l. yielded ++ l) c.in-Some.ensures.steps.0 in
    let small = c.into_vec-row-items.result.small in
    let ok = c.into_vec-row-items.result.ok in
    let i = c.loop-row.invariant in (
      omega (arith, c.saturating_add-at.ensures, i.0, small, ok.0, ok.1, ap (λ (l : List (List Cell)). length l) front, ap (λ (l : List (List Cell)). length l) c.into_vec-row-items.ensures, length-append yielded (c.in-Some.row ∷ c.next.new.self.rest.items), length-append yielded (c.in-Some.row ∷ [])),
      c.in_ok-keep_if.ensures ∙ kept-step c.args.rows yielded c.next.new.self.rest.items c.in-Some.row c.args.firsts.now c.loop-row.at c.loop-row.made c.is_set.result front i.0 i.1 c.is_set.ensures c.requires,
    )
