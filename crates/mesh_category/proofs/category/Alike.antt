-- Parents that are alike, one pair at a time.
use Rattle.std.proofs.Common.{◌≡◌, ◌≢◌, ℕ, suc, ◌+◌, ◌<◌, Bool, true, false, ◌&&◌, List, [], ◌∷◌, length, get_or, drop, refl, ap}
use Rattle.std.proofs.lemmas.List.{drop_more}
use Rattle.mesh_base.specs.declared.snapshots.Node.{Node}
use Rattle.mesh_category.specs.category.Alike.{are_alike, is_alike}

module _ (olds news : List Node) (adds : List Bool) where
  pub not_long : (ps qs : List ℕ) → length ps ≢ length qs → false ≡ are_alike olds news adds ps qs
  not_long [] [] h = absurd (h refl)
  not_long [] (q ∷ qs) h = refl
  not_long (p ∷ ps) [] h = refl
  not_long (p ∷ ps) (q ∷ qs) h = by (is_alike olds news adds p q) (not_long ps qs (λ e. h (ap suc e)))
    where
      by : (b : Bool) → false ≡ are_alike olds news adds ps qs → false ≡ (b && are_alike olds news adds ps qs)
      by true e = e
      by false e = refl

  -- one place on
  pub alike_more : (ps qs : List ℕ) (i : ℕ) → i < length ps → i < length qs
      → are_alike olds news adds (drop i ps) (drop i qs) ≡ (is_alike olds news adds (get_or ps i 0) (get_or qs i 0) && are_alike olds news adds (drop (i + 1) ps) (drop (i + 1) qs))
  alike_more ps qs i h k = rw (drop_more ps i 0 h, drop_more qs i 0 k) refl
