use Rattle.std.proofs.Common.{◌+◌, ◌∷◌, [], ℕ, List, length, ap, ◌∙◌, length-append}
use Rattle.mesh_plan_due.specs.Lineages.{has_bit}
use Rattle.mesh_plan_due.proofs.Bits.{none_more}
use Rattle.mesh_plan_due.proofs.lineages.no_bits.Goals as goal

pub loop-at-preserved : goal.loop-at-preserved
loop-at-preserved c =
    let row : List ℕ = c.loop-at.row.items in
    let pushed = c.in_ok-push.ensures.items in
    record {
      long = ap length pushed ∙ length-append row (0 ∷ []) ∙ ap (λ n. n + 1) c.loop-at.invariant.long;
      none = λ p. ap (λ (r : List ℕ). has_bit r p) pushed ∙ none_more row c.loop-at.invariant.none p;
    }
