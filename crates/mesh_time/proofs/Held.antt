-- The test for an interval says that each of its seconds is there.
use Rattle.std.proofs.Common.{◌≡◌, IsTrue, ◌↔◌, Bool, true, List, [], ◌∷◌, inl, inr, ℤ, ◌≤ℤ◌, ◌<ℤ◌, arith, rules}
use Rattle.std.specs.List.{list_any}
use Rattle.std.specs.Int.Signed.{le_z}
use Rattle.std.proofs.lemmas.Int.{ints, by_lt_z}
use Rattle.std.proofs.lemmas.Bool.{and_from as and_true, or_left, or_right}
use Rattle.mesh_base_values.specs.declared.times.Bounds.{Bounds}
use Rattle.mesh_base_values.proofs.Tests.{le_true, le_says, both_parts as and_says, either_part as or_says}
use Rattle.mesh_time.specs.Ranges.{IsWithin, Has, is_apart, covers, is_held}
use Rattle.mesh_time.proofs.Apart.{Apart, apart_says, apart_from_after, has_above}

is_true : {r : Bool} → IsTrue r → r ≡ true
is_true h = search rules

true_is : {r : Bool} → r ≡ true → IsTrue r
true_is h = search rules

covers_says : (start last : ℤ) (b : Bounds) → covers start last b ≡ true → (b.start ≤ℤ start) × (last ≤ℤ b.end)
covers_says start last b h = let p = and_says (le_z b.start start) _ h in (le_says _ _ p.0, le_says _ _ p.1)

covers_true : (start last : ℤ) (b : Bounds) → b.start ≤ℤ start → last ≤ℤ b.end → covers start last b ≡ true
covers_true start last b p q = and_true _ _ (le_true _ _ p) (le_true _ _ q)

pub has_if_covered : (xs : List Bounds) (start last t : ℤ) → list_any (covers start last) xs ≡ true → start ≤ℤ t → t <ℤ last → Has xs t
has_if_covered [] start last t h p q = cc
has_if_covered (b ∷ bs) start last t h p q =
    elim (or_says (covers start last b) _ h) [
      | inl c ↦ (let w = covers_says start last b c in inl (omega (arith, ints), omega (arith, ints)))
      | inr m ↦ inr (has_if_covered bs start last t m p q)
    ]

-- a second that isn't in the first span is in a later one
pub later : (b : Bounds) (bs : List Bounds) (t : ℤ) → Has (b ∷ bs) t → (IsWithin b.start b.end t → ⊥) → Has bs t
later b bs t (inl w) n = absurd (n w)
later b bs t (inr h) n = h

-- an interval whose first second isn't above a span's end lies in that span, if all of it is there
not_before : (b : Bounds) (bs : List Bounds) (start last : ℤ) → Apart (b ∷ bs) → start <ℤ last → start <ℤ b.end → ((t : ℤ) → start ≤ℤ t → t <ℤ last → Has (b ∷ bs) t) → start <ℤ b.start → ⊥
not_before b bs start last a p k h m =
    let above : b.end <ℤ start = has_above start b.end bs a.1 (later b bs start (h start (omega (arith, ints)) p) (λ w. omega (arith, ints))) in
    omega (arith, ints)

not_beyond : (b : Bounds) (bs : List Bounds) (start last : ℤ) → Apart (b ∷ bs) → start <ℤ b.end → ((t : ℤ) → start ≤ℤ t → t <ℤ last → Has (b ∷ bs) t) → b.end <ℤ last → ⊥
not_beyond b bs start last a k h n =
    let above : b.end <ℤ b.end = has_above b.end b.end bs a.1 (later b bs b.end (h b.end (omega (arith, ints)) n) (λ w. omega (arith, ints))) in
    omega (arith, ints)

first_covers : (b : Bounds) (bs : List Bounds) (start last : ℤ) → Apart (b ∷ bs) → start <ℤ last → start <ℤ b.end → ((t : ℤ) → start ≤ℤ t → t <ℤ last → Has (b ∷ bs) t) → covers start last b ≡ true
first_covers b bs start last a p k h =
    let low : b.start ≤ℤ start = by_lt_z start b.start (λ m. absurd (not_before b bs start last a p k h m)) (λ m. m) in
    let high : last ≤ℤ b.end = by_lt_z b.end last (λ n. absurd (not_beyond b bs start last a k h n)) (λ n. n) in
    covers_true start last b low high

pub covered_if_has : (xs : List Bounds) (start last : ℤ) → Apart xs → start <ℤ last → ((t : ℤ) → start ≤ℤ t → t <ℤ last → Has xs t) → list_any (covers start last) xs ≡ true
covered_if_has [] start last a p h = absurd (h start (omega (arith, ints)) p)
covered_if_has (b ∷ bs) start last a p h =
    by_lt_z start b.end
    (λ k. or_left _ _ (first_covers b bs start last a p k h))
    (λ k.
    let rest : (t : ℤ) → start ≤ℤ t → t <ℤ last → Has bs t = (λ t q r. later b bs t (h t q r) (λ w. omega (arith, ints))) in
    or_right (covers start last b) _ (covered_if_has bs start last (apart_from_after b.end bs a.1) p rest))

pub has_if_held : (xs : List Bounds) (start last : ℤ) → is_held xs start last ≡ true → (t : ℤ) → start ≤ℤ t → t <ℤ last → Has xs t
has_if_held xs start last h t p q =
    elim (or_says (le_z last start) _ h) [
      | inl e ↦ (let none = le_says last start e in absurd (omega (arith, ints)))
      | inr c ↦ has_if_covered xs start last t c p q
    ]

pub held_if_has : (xs : List Bounds) (start last : ℤ) → is_apart xs ≡ true → ((t : ℤ) → start ≤ℤ t → t <ℤ last → Has xs t) → is_held xs start last ≡ true
held_if_has xs start last a h =
    by_lt_z start last
    (λ k. or_right (le_z last start) _ (covered_if_has xs start last (apart_says xs a) k h))
    (λ k. or_left _ _ (le_true last start k))

pub held_tells : (xs : List Bounds) (start last : ℤ) → is_apart xs ≡ true → IsTrue (is_held xs start last) ↔ ((t : ℤ) → start ≤ℤ t → t <ℤ last → Has xs t)
held_tells xs start last a = (λ y t. has_if_held xs start last (is_true y) t, λ all. true_is (held_if_has xs start last a all))
