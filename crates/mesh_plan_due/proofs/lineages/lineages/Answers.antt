use Rattle.std.proofs.Common.{◌≡◌, ◌+◌, ◌/◌, ◌∷◌, [], ◌||◌, ℕ, List, nat_eq, length, ap, sym, ◌∙◌, subst, arith, length-append}
use Rattle.std.specs.List.{All}
use Rattle.std.proofs.lemmas.List.Elements.{All-push}
use Rattle.mesh_plan_due.specs.Lineages.{HaveLineages, any_row, has_bit}
use Rattle.mesh_plan_due.proofs.Rows.{lineages_more}
use Rattle.mesh_plan_due.proofs.lineages.lineages.Goals as goal

pub loop-at-preserved : goal.loop-at-preserved
loop-at-preserved c =
    let rows : List (List ℕ) = c.loop-at.rows.items in
    let row : List ℕ = c.from_vec.result in
    let pushed = c.in_ok-push.ensures.items in
    let bits : (p : ℕ) → has_bit c.from_vec.result p ≡ (nat_eq p c.loop-at.at || any_row c.loop-at.rows.items p c.index-nodes-at.result.parents) =
    (λ p. ap (λ r. has_bit r p) c.from_vec.ensures ∙ c.in_ok-row.ensures.bits p ∙ (λ j. nat_eq p c.loop-at.at || any_row (c.deref.ensures.value j) p (c.as_slice.ensures j))) in
    let long : length c.from_vec.result ≡ length c.args.nodes.now / 64 + 1 = ap length c.from_vec.ensures ∙ c.in_ok-row.ensures.length in
    record {
      rows = subst (HaveLineages c.args.nodes.now _) (sym pushed) (lineages_more c.args.nodes.now c.requires c.loop-at.at c.index-nodes-at.result c.loop-at-test.true c.index-nodes-at.is rows c.loop-at.invariant.rows row bits);
      long = ap length pushed ∙ omega (arith, length-append rows (row ∷ []), c.loop-at.invariant.long);
      words = subst (All (λ (r : List ℕ). length r ≡ length c.args.nodes.now / 64 + 1)) (sym pushed) (All-push (λ (r : List ℕ). length r ≡ length c.args.nodes.now / 64 + 1) rows row c.loop-at.invariant.words long);
    }
