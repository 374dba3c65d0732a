-- Tests on signed numbers as facts, and spans that stay apart.
use Rattle.std.proofs.Common.{◌≡◌, refl, true, false, List, [], ◌∷◌, inl, inr, ℤ, ◌≤ℤ◌, ◌<ℤ◌, arith}
use Rattle.std.specs.Int.Signed.{lt_z, le_z}
use Rattle.std.proofs.lemmas.Int.{ints}
use Rattle.std.proofs.lemmas.Bool.{and_from as and_true}
use Rattle.mesh_base_values.specs.declared.times.Bounds.{Bounds}
use Rattle.mesh_base_values.proofs.Tests.{lt_true, lt_says, both_parts as and_says}
use Rattle.mesh_time.specs.Ranges.{Has, is_apart, is_apart_after}

pub lt_false : (a b : ℤ) → b ≤ℤ a → lt_z a b ≡ false
lt_false a b h = grind (arith, ints)

pub lt_not : (a b : ℤ) → lt_z a b ≡ false → b ≤ℤ a
lt_not a b h = grind (arith, ints)

pub le_false : (a b : ℤ) → b <ℤ a → le_z a b ≡ false
le_false a b h = grind (arith, ints)

pub le_not : (a b : ℤ) → le_z a b ≡ false → b <ℤ a
le_not a b h = grind (arith, ints)

-- the tests as facts
abbrev pub ApartAfter : ℤ → List Bounds → Type 0
ApartAfter t [] = Unit {0}
ApartAfter t (b ∷ bs) = (t <ℤ b.start) × (b.start <ℤ b.end) × ApartAfter b.end bs

abbrev pub Apart : List Bounds → Type 0
Apart [] = Unit {0}
Apart (b ∷ bs) = (b.start <ℤ b.end) × ApartAfter b.end bs

pub apart_after_says : (t : ℤ) (xs : List Bounds) → is_apart_after t xs ≡ true → ApartAfter t xs
apart_after_says t [] h = tt
apart_after_says t (b ∷ bs) h =
    let p = and_says (lt_z t b.start) _ h in
    let q = and_says (lt_z b.start b.end) _ p.1 in
    (lt_says _ _ p.0, lt_says _ _ q.0, apart_after_says b.end bs q.1)

pub apart_says : (xs : List Bounds) → is_apart xs ≡ true → Apart xs
apart_says [] h = tt
apart_says (b ∷ bs) h =
    let q = and_says (lt_z b.start b.end) _ h in
    (lt_says _ _ q.0, apart_after_says b.end bs q.1)

pub is_apart_after_true : (t : ℤ) (xs : List Bounds) → ApartAfter t xs → is_apart_after t xs ≡ true
is_apart_after_true t [] h = refl
is_apart_after_true t (b ∷ bs) h =
    and_true _ _ (lt_true _ _ h.0) (and_true _ _ (lt_true _ _ h.1) (is_apart_after_true b.end bs h.2))

pub is_apart_true : (xs : List Bounds) → Apart xs → is_apart xs ≡ true
is_apart_true [] h = refl
is_apart_true (b ∷ bs) h = and_true _ _ (lt_true _ _ h.0) (is_apart_after_true b.end bs h.1)

pub apart_after_lower : (t u : ℤ) (xs : List Bounds) → t ≤ℤ u → ApartAfter u xs → ApartAfter t xs
apart_after_lower t u [] h p = tt
apart_after_lower t u (b ∷ bs) h p = (omega (arith, ints), p.1, p.2)

pub apart_from_after : (t : ℤ) (xs : List Bounds) → ApartAfter t xs → Apart xs
apart_from_after t [] p = tt
apart_from_after t (b ∷ bs) p = (p.1, p.2)

-- a second of spans that begin after another one is above it
pub has_above : (t u : ℤ) (xs : List Bounds) → ApartAfter u xs → Has xs t → u <ℤ t
has_above t u [] p h = absurd h
has_above t u (b ∷ bs) p (inl w) = omega (arith, ints)
has_above t u (b ∷ bs) p (inr h) = let more : b.end <ℤ t = has_above t b.end bs p.2 h in omega (arith, ints)
