-- The spans without what is forgotten: they stay apart, and keep the seconds below it and above it.
use Rattle.std.proofs.Common.{◌≡◌, ◌∙◌, true, List, [], ◌∷◌, ◌++◌, ◌⊎◌, inl, inr, ◌↔◌, ℤ, ◌≤ℤ◌, ◌<ℤ◌, arith, append_assoc}
use Rattle.std.specs.List.{flat_map}
use Rattle.std.specs.Int.{int_min, int_max}
use Rattle.std.proofs.lemmas.Int.{ints, clamps, by_lt_z}
use Rattle.mesh_base_values.specs.declared.times.Bounds.{Bounds}
use Rattle.mesh_base_values.proofs.Tests.{lt_true}
use Rattle.mesh_time.specs.Ranges.{IsWithin, Has, is_apart}
use Rattle.mesh_time.specs.Edits.{filled, pieces}
use Rattle.mesh_time.proofs.Apart.{lt_false, ApartAfter, Apart, apart_says, is_apart_true, apart_after_lower, apart_from_after}

apart_after_filled : (t start last : ℤ) (rest : List Bounds) → t <ℤ start → (start <ℤ last → ApartAfter last rest) → (last ≤ℤ start → ApartAfter t rest) → ApartAfter t (filled start last ++ rest)
apart_after_filled t start last rest h some none =
    by_lt_z start last
    (λ k. rw (lt_true _ _ k) (h, k, some k))
    (λ k. rw (lt_false _ _ k) (none k))

apart_filled : (start last : ℤ) (rest : List Bounds) → (start <ℤ last → ApartAfter last rest) → (last ≤ℤ start → Apart rest) → Apart (filled start last ++ rest)
apart_filled start last rest some none =
    by_lt_z start last
    (λ k. rw (lt_true _ _ k) (k, some k))
    (λ k. rw (lt_false _ _ k) (none k))

-- after the piece below comes the piece above, and the rest
apart_after_upper : (t : ℤ) (gone b : Bounds) (rest : List Bounds) → t <ℤ int_max b.start gone.end → t ≤ℤ b.end → ApartAfter b.end rest → ApartAfter t (filled (int_max b.start gone.end) b.end ++ rest)
apart_after_upper t gone b rest h k q =
    apart_after_filled t (int_max b.start gone.end) b.end rest h (λ _. q) (λ _. apart_after_lower t b.end rest k q)

lower_ends : (gone b : Bounds) → gone.start <ℤ gone.end → b.start <ℤ b.end → int_min b.end gone.start <ℤ int_max b.start gone.end
lower_ends gone b p q = omega (arith, ints, clamps)

min_below : (a b : ℤ) → int_min a b ≤ℤ a
min_below a b = omega (arith, ints, clamps)

max_above : (t a b : ℤ) → t <ℤ a → t <ℤ int_max a b
max_above t a b h = omega (arith, ints, clamps)

pub apart_after_forgotten : (t : ℤ) (gone : Bounds) (xs : List Bounds) → gone.start <ℤ gone.end → ApartAfter t xs → ApartAfter t (flat_map (pieces gone) xs)
apart_after_forgotten t gone [] p q = tt
apart_after_forgotten t gone (b ∷ bs) p q =
    let rest : ApartAfter b.end (flat_map (pieces gone) bs) = apart_after_forgotten b.end gone bs p q.2 in
    rw append_assoc (apart_after_filled t b.start (int_min b.end gone.start) _ q.0
    (λ k. apart_after_upper (int_min b.end gone.start) gone b _ (lower_ends gone b p q.1) (min_below b.end gone.start) rest)
    (λ k. apart_after_upper t gone b _ (max_above t b.start gone.end q.0) (omega (arith, ints)) rest))

pub apart_forgotten : (gone : Bounds) (xs : List Bounds) → gone.start <ℤ gone.end → Apart xs → Apart (flat_map (pieces gone) xs)
apart_forgotten gone [] p q = tt
apart_forgotten gone (b ∷ bs) p q =
    let rest : ApartAfter b.end (flat_map (pieces gone) bs) = apart_after_forgotten b.end gone bs p q.1 in
    rw append_assoc (apart_filled b.start (int_min b.end gone.start) _
    (λ k. apart_after_upper (int_min b.end gone.start) gone b _ (lower_ends gone b p q.0) (min_below b.end gone.start) rest)
    (λ k. apart_filled (int_max b.start gone.end) b.end _ (λ _. rest) (λ _. apart_from_after b.end _ rest)))

has_filled : (start last t : ℤ) → Has (filled start last) t ↔ IsWithin start last t
has_filled start last t =
    by_lt_z start last
    (λ k. rw (lt_true _ _ k) (λ h. elim h [ inl w ↦ w | inr n ↦ absurd n ], λ w. inl w))
    (λ k. rw (lt_false _ _ k) (λ h. absurd h, λ w. omega (arith, ints)))

has_append : (xs ys : List Bounds) (t : ℤ) → Has (xs ++ ys) t ↔ (Has xs t ⊎ Has ys t)
has_append [] ys t = (λ h. inr h, λ h. elim h [ inl n ↦ absurd n | inr y ↦ y ])
has_append (b ∷ bs) ys t =
    let more = has_append bs ys t in (
      λ h. elim h [ inl w ↦ inl (inl w) | inr m ↦ elim (more.0 m) [ inl x ↦ inl (inr x) | inr y ↦ inr y ] ],
      λ h. elim h [ inl m ↦ elim m [ inl w ↦ inl w | inr x ↦ inr (more.1 (inl x)) ] | inr y ↦ inr (more.1 (inr y)) ],
    )

-- below what is forgotten, or from its end on
abbrev Spared : Bounds → ℤ → Type 0
Spared gone t = (t <ℤ gone.start) ⊎ (gone.end ≤ℤ t)

within_says : (gone b : Bounds) (t : ℤ) → gone.start <ℤ gone.end → IsWithin b.start (int_min b.end gone.start) t ⊎ IsWithin (int_max b.start gone.end) b.end t → IsWithin b.start b.end t × Spared gone t
within_says gone b t p (inl w) = ((w.0, omega (arith, ints, clamps)), inl (omega (arith, ints, clamps)))
within_says gone b t p (inr w) = ((omega (arith, ints, clamps), w.1), inr (omega (arith, ints, clamps)))

within_from : (gone b : Bounds) (t : ℤ) → IsWithin b.start b.end t → Spared gone t → IsWithin b.start (int_min b.end gone.start) t ⊎ IsWithin (int_max b.start gone.end) b.end t
within_from gone b t w (inl h) = inl (w.0, omega (arith, ints, clamps))
within_from gone b t w (inr h) = inr (omega (arith, ints, clamps), w.1)

has_pieces : (gone b : Bounds) (t : ℤ) → gone.start <ℤ gone.end → Has (pieces gone b) t ↔ (IsWithin b.start b.end t × Spared gone t)
has_pieces gone b t p =
    let both = has_append (filled b.start (int_min b.end gone.start)) (filled (int_max b.start gone.end) b.end) t in
    let low = has_filled b.start (int_min b.end gone.start) t in
    let high = has_filled (int_max b.start gone.end) b.end t in (
      λ h. within_says gone b t p (elim (both.0 h) [ inl x ↦ inl (low.0 x) | inr y ↦ inr (high.0 y) ]),
      λ w. both.1 (elim (within_from gone b t w.0 w.1) [ inl x ↦ inl (low.1 x) | inr y ↦ inr (high.1 y) ]),
    )

pub has_forgotten : (gone : Bounds) (xs : List Bounds) (t : ℤ) → gone.start <ℤ gone.end → Has (flat_map (pieces gone) xs) t ↔ (Has xs t × ((t <ℤ gone.start) ⊎ (gone.end ≤ℤ t)))
has_forgotten gone [] t p = (λ h. absurd h, λ h. absurd h.0)
has_forgotten gone (b ∷ bs) t p =
    let both = has_append (pieces gone b) (flat_map (pieces gone) bs) t in
    let here = has_pieces gone b t p in
    let more = has_forgotten gone bs t p in (
      λ h. elim (both.0 h) [ inl x ↦ (inl (here.0 x).0, (here.0 x).1) | inr y ↦ (inr (more.0 y).0, (more.0 y).1) ],
      λ h. both.1 (elim h.0 [ inl w ↦ inl (here.1 (w, h.1)) | inr m ↦ inr (more.1 (m, h.1)) ]),
    )

pub is_apart-forgotten : (made : List Bounds) (gone : Bounds) (xs : List Bounds) → made ≡ flat_map (pieces gone) xs → gone.start <ℤ gone.end → is_apart xs ≡ true → is_apart made ≡ true
is_apart-forgotten made gone xs e p q = rw e (is_apart_true _ (apart_forgotten gone xs p (apart_says xs q)))

pub has_if_forgotten : (made : List Bounds) (gone : Bounds) (xs : List Bounds) → made ≡ flat_map (pieces gone) xs → gone.start <ℤ gone.end → (t : ℤ) → Has made t ↔ (Has xs t × ((t <ℤ gone.start) ⊎ (gone.end ≤ℤ t)))
has_if_forgotten made gone xs e p t = rw e (has_forgotten gone xs t p)

pub pieces_pushed : (gone b : Bounds) (low high : ℤ) (before between after : List Bounds) → low ≡ int_min b.end gone.start → high ≡ int_max b.start gone.end → between ≡ before ++ filled b.start low → after ≡ between ++ filled high b.end → after ≡ before ++ pieces gone b
pieces_pushed gone b low high before between after p q r s =
    s ∙ (rw (r, p, q) (append_assoc before _ _))
