-- The spans with one more: they stay apart, and have its seconds beside those that they had.
use Rattle.std.proofs.Common.{◌≡◌, true, List, [], ◌∷◌, ◌⊎◌, inl, inr, ◌↔◌, ℤ, ◌≤ℤ◌, ◌<ℤ◌, Some, arith}
use Rattle.std.proofs.lemmas.Int.{ints, clamps, by_lt_z}
use Rattle.mesh_base_values.specs.declared.times.Bounds.{Bounds}
use Rattle.mesh_base_values.proofs.Tests.{lt_true}
use Rattle.mesh_time.specs.Ranges.{IsWithin, Has, is_apart}
use Rattle.mesh_time.specs.Edits.{hull, added}
use Rattle.mesh_time.proofs.Apart.{lt_false, ApartAfter, Apart, apart_says, is_apart_true, apart_after_lower, apart_from_after}

pub hull_proper : (a b : Bounds) → a.start <ℤ a.end → (hull a b).start <ℤ (hull a b).end
hull_proper a b p = omega (arith, ints, clamps)

hull_above : (t : ℤ) (a b : Bounds) → t <ℤ a.start → t <ℤ b.start → t <ℤ (hull a b).start
hull_above t a b p q = omega (arith, ints, clamps)

hull_from_left : (a b : Bounds) (t : ℤ) → IsWithin a.start a.end t → IsWithin (hull a b).start (hull a b).end t
hull_from_left a b t w = (omega (arith, ints, clamps), omega (arith, ints, clamps))

hull_from_right : (a b : Bounds) (t : ℤ) → IsWithin b.start b.end t → IsWithin (hull a b).start (hull a b).end t
hull_from_right a b t w = (omega (arith, ints, clamps), omega (arith, ints, clamps))

-- two spans that touch leave no hole
hull_says : (a b : Bounds) (t : ℤ) → a.start ≤ℤ b.end → b.start ≤ℤ a.end → IsWithin (hull a b).start (hull a b).end t → IsWithin b.start b.end t ⊎ IsWithin a.start a.end t
hull_says a b t p q w =
    by_lt_z t a.start
    (λ h. inl (omega (arith, ints, clamps), omega (arith, ints, clamps)))
    (λ h. by_lt_z t a.end
    (λ k. inr (h, k))
    (λ k. inl (omega (arith, ints, clamps), omega (arith, ints, clamps))))

pub apart_after_added : (t : ℤ) (new : Bounds) (xs : List Bounds) → t <ℤ new.start → new.start <ℤ new.end → ApartAfter t xs → ApartAfter t (added (Some new) xs)
apart_after_added t new [] h p q = (h, p, tt)
apart_after_added t new (b ∷ bs) h p q =
    by_lt_z b.end new.start
    (λ k. rw (lt_true _ _ k) (q.0, q.1, apart_after_added b.end new bs k p q.2))
    (λ k. rw (lt_false _ _ k) (by_lt_z new.end b.start
    (λ m. rw (lt_true _ _ m) (h, p, (m, q.1, q.2)))
    (λ m. rw (lt_false _ _ m) (apart_after_added t (hull new b) bs (hull_above t new b h q.0) (hull_proper new b p) (apart_after_lower t b.end bs (omega (arith, ints)) q.2)))))

pub apart_added : (new : Bounds) (xs : List Bounds) → new.start <ℤ new.end → Apart xs → Apart (added (Some new) xs)
apart_added new [] p q = (p, tt)
apart_added new (b ∷ bs) p q =
    by_lt_z b.end new.start
    (λ k. rw (lt_true _ _ k) (q.0, apart_after_added b.end new bs k p q.1))
    (λ k. rw (lt_false _ _ k) (by_lt_z new.end b.start
    (λ m. rw (lt_true _ _ m) (p, (m, q.0, q.1)))
    (λ m. rw (lt_false _ _ m) (apart_added (hull new b) bs (hull_proper new b p) (apart_from_after b.end bs q.1)))))

-- the same facts of what is so and of what comes in
shifted : {A B W X : Type 0} → A ↔ (B ⊎ W) → (X ⊎ A) ↔ ((X ⊎ B) ⊎ W)
shifted h = (
  λ m. elim m [ inl x ↦ inl (inl x) | inr a ↦ elim (h.0 a) [ inl b ↦ inl (inr b) | inr w ↦ inr w ] ],
  λ m. elim m [ inl n ↦ elim n [ inl x ↦ inl x | inr b ↦ inr (h.1 (inl b)) ] | inr w ↦ inr (h.1 (inr w)) ],
)

merged : {A B V W X : Type 0} → A ↔ (B ⊎ V) → (V → X ⊎ W) → (X → V) → (W → V) → A ↔ ((X ⊎ B) ⊎ W)
merged h from x_in w_in = (
  λ a. elim (h.0 a) [ inl b ↦ inl (inr b) | inr v ↦ elim (from v) [ inl x ↦ inl (inl x) | inr w ↦ inr w ] ],
  λ m. elim m [ inl n ↦ elim n [ inl x ↦ h.1 (inr (x_in x)) | inr b ↦ h.1 (inl b) ] | inr w ↦ h.1 (inr (w_in w)) ],
)

turned : {X W : Type 0} → (W ⊎ X) ↔ (X ⊎ W)
turned = (λ m. elim m [ inl w ↦ inr w | inr x ↦ inl x ], λ m. elim m [ inl x ↦ inr x | inr w ↦ inl w ])

pub has_added : (new : Bounds) (xs : List Bounds) (t : ℤ) → new.start <ℤ new.end → Has (added (Some new) xs) t ↔ (Has xs t ⊎ IsWithin new.start new.end t)
has_added new [] t p = turned
has_added new (b ∷ bs) t p =
    by_lt_z b.end new.start
    (λ k. rw (lt_true _ _ k) (shifted (has_added new bs t p)))
    (λ k. rw (lt_false _ _ k) (by_lt_z new.end b.start
    (λ m. rw (lt_true _ _ m) turned)
    (λ m. rw (lt_false _ _ m) (merged (has_added (hull new b) bs t (hull_proper new b p)) (hull_says new b t k m) (hull_from_right new b t) (hull_from_left new b t)))))

pub is_apart-added : (made : List Bounds) (new : Bounds) (xs : List Bounds) → made ≡ added (Some new) xs → new.start <ℤ new.end → is_apart xs ≡ true → is_apart made ≡ true
is_apart-added made new xs e p q = rw e (is_apart_true _ (apart_added new xs p (apart_says xs q)))

pub has_if_added : (made : List Bounds) (new : Bounds) (xs : List Bounds) → made ≡ added (Some new) xs → new.start <ℤ new.end → (t : ℤ) → Has made t ↔ (Has xs t ⊎ IsWithin new.start new.end t)
has_if_added made new xs e p t = rw e (has_added new xs t p)
