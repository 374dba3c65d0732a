-- Spans that stay apart and have the same seconds are the same.
use Rattle.std.proofs.Common.{◌≡◌, refl, sym, true, List, [], ◌∷◌, inl, inr, ◌↔◌, ℤ, ◌≤ℤ◌, ◌<ℤ◌, arith}
use Rattle.std.proofs.lemmas.Int.{ints, by_lt_z}
use Rattle.mesh_base_values.specs.declared.times.Bounds.{Bounds}
use Rattle.mesh_time.specs.Ranges.{Has, is_apart}
use Rattle.mesh_time.proofs.Apart.{Apart, apart_says, apart_from_after, has_above}
use Rattle.mesh_time.proofs.Held.{later}

from_first : (b : Bounds) (rest_b : List Bounds) (t : ℤ) → Apart (b ∷ rest_b) → Has (b ∷ rest_b) t → b.start ≤ℤ t
from_first b rest_b t a (inl w) = w.0
from_first b rest_b t a (inr h) = let above : b.end <ℤ t = has_above t b.end rest_b a.1 h in omega (arith, ints)

-- the second at a span's end is a hole
hole : (b : Bounds) (rest_b : List Bounds) → Apart (b ∷ rest_b) → Has (b ∷ rest_b) b.end → ⊥
hole b rest_b a (inl w) = omega (arith, ints)
hole b rest_b a (inr h) = let above : b.end <ℤ b.end = has_above b.end b.end rest_b a.1 h in omega (arith, ints)

start_below : (a b : Bounds) (rest_a rest_b : List Bounds) → Apart (a ∷ rest_a) → Apart (b ∷ rest_b) → ((t : ℤ) → Has (a ∷ rest_a) t ↔ Has (b ∷ rest_b) t) → b.start ≤ℤ a.start
start_below a b rest_a rest_b p q h = from_first b rest_b a.start q ((h a.start).0 (inl (omega (arith, ints), p.0)))

end_below : (a b : Bounds) (rest_a rest_b : List Bounds) → Apart (a ∷ rest_a) → Apart (b ∷ rest_b) → a.start ≡ b.start → ((t : ℤ) → Has (a ∷ rest_a) t ↔ Has (b ∷ rest_b) t) → b.end ≤ℤ a.end
end_below a b rest_a rest_b p q e h =
    by_lt_z a.end b.end
    (λ k. absurd (hole a rest_a p ((h a.end).1 (inl (omega (arith, ints), k)))))
    (λ k. k)

flipped : {A B : Type 0} → A ↔ B → B ↔ A
flipped h = (h.1, h.0)

rest_has : (a b : Bounds) (rest_a rest_b : List Bounds) → Apart (a ∷ rest_a) → a.end ≡ b.end → ((t : ℤ) → Has (a ∷ rest_a) t ↔ Has (b ∷ rest_b) t) → (t : ℤ) → Has rest_a t → Has rest_b t
rest_has a b rest_a rest_b p e h t m =
    let above : a.end <ℤ t = has_above t a.end rest_a p.1 m in
    later b rest_b t ((h t).0 (inr m)) (λ w. omega (arith, ints))

bounds_same : (a b : Bounds) → a.start ≡ b.start → a.end ≡ b.end → a ≡ b
bounds_same a b p q = λ i. record { start = p i; end = q i }

pub same_if_same_seconds : (xs ys : List Bounds) → Apart xs → Apart ys → ((t : ℤ) → Has xs t ↔ Has ys t) → xs ≡ ys
same_if_same_seconds [] [] p q h = refl
same_if_same_seconds [] (b ∷ rest_b) p q h = absurd ((h b.start).1 (inl (omega (arith, ints), q.0)))
same_if_same_seconds (a ∷ rest_a) [] p q h = absurd ((h a.start).0 (inl (omega (arith, ints), p.0)))
same_if_same_seconds (a ∷ rest_a) (b ∷ rest_b) p q h =
    let back : (t : ℤ) → Has (b ∷ rest_b) t ↔ Has (a ∷ rest_a) t = (λ t. flipped (h t)) in
    let one : b.start ≤ℤ a.start = start_below a b rest_a rest_b p q h in
    let two : a.start ≤ℤ b.start = start_below b a rest_b rest_a q p back in
    let starts : a.start ≡ b.start = omega (arith, ints) in
    let three : b.end ≤ℤ a.end = end_below a b rest_a rest_b p q starts h in
    let four : a.end ≤ℤ b.end = end_below b a rest_b rest_a q p (sym starts) back in
    let ends : a.end ≡ b.end = omega (arith, ints) in
    let rest = same_if_same_seconds rest_a rest_b (apart_from_after a.end rest_a p.1) (apart_from_after b.end rest_b q.1) (λ t. (rest_has a b rest_a rest_b p ends h t, rest_has b a rest_b rest_a q (sym ends) back t)) in
    λ i. bounds_same a b starts ends i ∷ rest i

pub same_ranges : (xs ys : List Bounds) → is_apart xs ≡ true → is_apart ys ≡ true → ((t : ℤ) → Has xs t ↔ Has ys t) → xs ≡ ys
same_ranges xs ys p q h = same_if_same_seconds xs ys (apart_says xs p) (apart_says ys q) h
