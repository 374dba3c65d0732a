-- The models that a project no longer has, one after another.
use Rattle.std.proofs.Common.{◌≡◌, ℕ, ◌+◌, ◌<◌, ◌≤◌, List, drop, length, get_or, sym, ap, ◌∙◌}
use Rattle.std.proofs.lemmas.List.{drop_all, drop_more}
use Rattle.mesh_base_values.specs.declared.values.Pair.{Pair}
use Rattle.mesh_cli_print.specs.declared.plans.differences.Difference.{Difference}
use Rattle.mesh_cli_print.specs.plans.PlanText.{removal, with_difference, with_removed}

pub removed_goes : (made more : List Difference) (ps : List Pair) (i : ℕ) (p : Pair) (total : List Difference) → i < length ps → p ≡ get_or ps i p → more ≡ with_difference made (removal p)
    → with_removed made (drop i ps) ≡ total → with_removed more (drop (i + 1) ps) ≡ total
removed_goes made more ps i p total lt here is so_far =
    ap (λ m. with_removed m (drop (i + 1) ps)) is
    ∙ (λ j. with_removed (with_difference made (removal (here j))) (drop (i + 1) ps))
    ∙ sym (ap (with_removed made) (drop_more ps i p lt))
    ∙ so_far

pub removed_end : (made : List Difference) (ps : List Pair) (i : ℕ) (total : List Difference) → length ps ≤ i → with_removed made (drop i ps) ≡ total → made ≡ total
removed_end made ps i total le so_far = sym (ap (with_removed made) (drop_all i ps le)) ∙ so_far
