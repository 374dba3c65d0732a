-- Items that are put at their places in either order.
use Rattle.std.proofs.Common.{◌≡◌, List, [], ◌∷◌, refl, sym, ◌∙◌, ap}
use Rattle.std.specs.Cmp.{IsTotalOrder}
use Rattle.std.specs.Ordering.{ordering_reverse}
use Rattle.std.specs.declared.cmp.Ordering.{Ordering}
use Rattle.std.specs.declared.cmp.Ordering.TheVariants.{Less, Equal, Greater}
use Rattle.mesh_list.specs.Keyed.{placed, put_by}

module _ {A K : Type 0} (R : K → K → Ordering) (total : IsTotalOrder R) (key : A → K) where
  turned : (a b : K) (o : Ordering) → R a b ≡ o → R b a ≡ ordering_reverse o
  turned a b o e = total.antisymm b a ∙ ap ordering_reverse e

  at_order : (o : Ordering) (z y : A) (zs : List A) → R (key z) (key y) ≡ o → placed R key y (z ∷ zs) ≡ put_by o z y zs (placed R key y zs)
  at_order o z y zs e = ap (λ (r : Ordering). put_by r z y zs (placed R key y zs)) e

  -- two that don't tie come to the same list in either order
  pub either_first : (x s : A) → (R (key x) (key s) ≡ Equal → ⊥) → (zs : List A) → placed R key x (placed R key s zs) ≡ placed R key s (placed R key x zs)
  either_first x s differ [] = go (R (key x) (key s)) refl
    where
      go : (c : Ordering) → R (key x) (key s) ≡ c → placed R key x (s ∷ []) ≡ placed R key s (x ∷ [])
      go Less e = at_order Greater s x [] (turned (key x) (key s) Less e) ∙ sym (at_order Less x s [] e)
      go Equal e = absurd (differ e)
      go Greater e = at_order Less s x [] (turned (key x) (key s) Greater e) ∙ sym (at_order Greater x s [] e)
  either_first x s differ (z ∷ zs) = go (R (key z) (key x)) refl (R (key z) (key s)) refl (R (key x) (key s)) refl (either_first x s differ zs)
    where
      -- what is put into a list that begins so
      first : (y w : A) (o : Ordering) → R (key z) (key w) ≡ o → placed R key y (placed R key w (z ∷ zs)) ≡ placed R key y (put_by o z w zs (placed R key w zs))
      first y w o e = ap (placed R key y) (at_order o z w zs e)

      go : (a : Ordering) → R (key z) (key x) ≡ a → (b : Ordering) → R (key z) (key s) ≡ b → (c : Ordering) → R (key x) (key s) ≡ c → placed R key x (placed R key s zs) ≡ placed R key s (placed R key x zs) → placed R key x (placed R key s (z ∷ zs)) ≡ placed R key s (placed R key x (z ∷ zs))
      go Less a Less b c o more = first x s Less b ∙ at_order Less z x (placed R key s zs) a ∙ ap (λ (l : List A). z ∷ l) more ∙ sym (first s x Less a ∙ at_order Less z s (placed R key x zs) b)
      go Less a Equal b c o more =
          first x s Equal b ∙ at_order Less s x zs (sym (total.congr (key z) (key s) (key x) b) ∙ a)
          ∙ sym (first s x Less a ∙ at_order Equal z s (placed R key x zs) b)
      go Less a Greater b c o more =
          first x s Greater b ∙ at_order Less s x (z ∷ zs) (total.trans (key s) (key z) (key x) (turned (key z) (key s) Greater b) a) ∙ ap (λ (l : List A). s ∷ l) (at_order Less z x zs a)
          ∙ sym (first s x Less a ∙ at_order Greater z s (placed R key x zs) b)
      go Equal a Less b c o more =
          first x s Less b ∙ at_order Equal z x (placed R key s zs) a
          ∙ sym (first s x Equal a ∙ at_order Less x s zs (sym (total.congr (key z) (key x) (key s) a) ∙ b))
      go Equal a Equal b c o more = absurd (differ (sym (total.congr (key z) (key x) (key s) a) ∙ b))
      go Equal a Greater b c o more =
          let above : R (key x) (key s) ≡ Greater = sym (total.congr (key z) (key x) (key s) a) ∙ b in
          first x s Greater b ∙ at_order Less s x (z ∷ zs) (turned (key x) (key s) Greater above) ∙ ap (λ (l : List A). s ∷ l) (at_order Equal z x zs a)
          ∙ sym (first s x Equal a ∙ at_order Greater x s zs above)
      go Greater a Less b c o more =
          first x s Less b ∙ at_order Greater z x (placed R key s zs) a
          ∙ sym (first s x Greater a ∙ at_order Less x s (z ∷ zs) (total.trans (key x) (key z) (key s) (turned (key z) (key x) Greater a) b) ∙ ap (λ (l : List A). x ∷ l) (at_order Less z s zs b))
      go Greater a Equal b c o more =
          let above : R (key s) (key x) ≡ Greater = sym (total.congr (key z) (key s) (key x) b) ∙ a in
          first x s Equal b ∙ at_order Greater s x zs above
          ∙ sym (first s x Greater a ∙ at_order Less x s (z ∷ zs) (turned (key s) (key x) Greater above) ∙ ap (λ (l : List A). x ∷ l) (at_order Equal z s zs b))
      go Greater a Greater b Less o more =
          first x s Greater b ∙ at_order Greater s x (z ∷ zs) (turned (key x) (key s) Less o)
          ∙ sym (first s x Greater a ∙ at_order Less x s (z ∷ zs) o ∙ ap (λ (l : List A). x ∷ l) (at_order Greater z s zs b))
      go Greater a Greater b Equal o more = absurd (differ o)
      go Greater a Greater b Greater o more =
          first x s Greater b ∙ at_order Less s x (z ∷ zs) (turned (key x) (key s) Greater o) ∙ ap (λ (l : List A). s ∷ l) (at_order Greater z x zs a)
          ∙ sym (first s x Greater a ∙ at_order Greater x s (z ∷ zs) o)
