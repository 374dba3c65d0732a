use Rattle.std.proofs.Common.{◌≡◌, ◌+◌, ◌++◌, ◌∷◌, [], suc, ap, sym, ◌∙◌, arith}
use Rattle.std.specs.List.{range_with_len}
use Rattle.mesh_eval.proofs.Picked.{range-more}
use Rattle.mesh_eval.proofs.groups.all_places.Goals as goal

pub loop-at-preserved : goal.loop-at-preserved
loop-at-preserved c =
    let at = c.loop-at.at in
    let one : at + 1 ≡ suc at = omega arith in
    let none : 0 + at ≡ at = omega arith in
    c.in_ok-push.ensures.items ∙ ap (λ l. l ++ at ∷ []) c.loop-at.invariant
    ∙ sym (ap (range_with_len 0) one ∙ range-more 0 at ∙ ap (λ k. range_with_len 0 at ++ k ∷ []) none)
