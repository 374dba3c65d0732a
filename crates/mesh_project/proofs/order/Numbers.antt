-- Lists of numbers, and what stands in them.
use Rattle.std.proofs.Common.{◌≡◌, ℕ, suc, ◌<◌, Bool, true, false, cond, ◌&&◌, ◌||◌, eqb, List, [], ◌∷◌, ◌++◌, length, map, refl, ap, sym, ◌∙◌, inl, inr, arith}
use Rattle.std.specs.Prelude.{filter, slice_index, slice_set, Contains, AllPairs, All}
use Rattle.std.specs.List.{list_all}
use Rattle.std.proofs.lemmas.Bool.{eqb-true, eq-eqb, or_cases, and_cases}
use Rattle.std.proofs.lemmas.List.{get_or_default, length-set}
use Rattle.std.proofs.lemmas.Grind.{common_steps}
use Rattle.std.proofs.lemmas.Bool.Decides.{nat_tests}
use Rattle.std.proofs.lemmas.List.Folds.{list_any_at, list_any-append}
use Rattle.std.proofs.lemmas.List.Elements.{All-append, All-from_get_or, All-head, All-map, All-tail}
use Rattle.std.proofs.lemmas.List.Kept.{AllPairs-cons}
use Rattle.std.proofs.lemmas.Map.Views.{Contains-from_any, any-filter_same}
use Rattle.mesh_base_values.proofs.Tests.{both_parts as and_both}
use Rattle.mesh_project.specs.order.Links.{has}
use Rattle.mesh_project.specs.order.Peeled.{ranks_with}

pub has_at : (ns : List ℕ) (k : ℕ) → k < length ns → has ns (slice_index ns k) ≡ true
has_at ns k l = list_any_at (eqb (slice_index ns k)) ns k 0 l (eq-eqb _ _ refl)

pub contains_of : (ns : List ℕ) (n : ℕ) → has ns n ≡ true → Contains ns n
contains_of ns n h = Contains-from_any eqb-true n ns h

pub place_of : (ns : List ℕ) (n : ℕ) → has ns n ≡ true → (k : ℕ) × (k < length ns) × (slice_index ns k ≡ n)
place_of ns n h =
    let c = contains_of ns n h in
    (c.0, c.1, get_or_default ns c.0 0 n c.1 ∙ c.2)

pub has_filter : (p : ℕ → Bool) (ns : List ℕ) (n : ℕ) → has (filter p ns) n ≡ (p n && has ns n)
has_filter p ns n = any-filter_same (eqb n) p (p n) (λ k e. ap p (sym (eqb-true n k e))) ns

pub has_append : (ms ns : List ℕ) (n : ℕ) → has (ms ++ ns) n ≡ (has ms n || has ns n)
has_append ms ns n = list_any-append (eqb n) ms ns

pub all_has : (t : ℕ → Bool) (ns : List ℕ) (n : ℕ) → list_all t ns ≡ true → has ns n ≡ true → t n ≡ true
all_has t [] n a h = cc
all_has t (m ∷ ns) n a h =
    let parts = and_both (t m) (list_all t ns) a in
    elim (or_cases (eqb n m) (has ns n) h) [
      | inl e ↦ ap t (eqb-true n m e) ∙ parts.0
      | inr e ↦ all_has t ns n parts.1 e
    ]

pub not_all_has : (t : ℕ → Bool) (ns : List ℕ) → list_all t ns ≡ false → (n : ℕ) × (has ns n ≡ true) × (t n ≡ false)
not_all_has t [] a = absurd cc
not_all_has t (m ∷ ns) a = elim (and_cases (t m) (list_all t ns) a) [
  | inl e ↦ (m, ap (λ b. b || has ns m) (eq-eqb m m refl), e)
  | inr e ↦
      let more = not_all_has t ns e in
      (more.0, later (eqb more.0 m) (has ns more.0) more.1, more.2)
]
  where
    later : (a b : Bool) → b ≡ true → (a || b) ≡ true
    later true b h = refl
    later false b h = h

pub length-ranks_with : (ranks ready : List ℕ) (rank : ℕ) → length (ranks_with ranks ready rank) ≡ length ranks
length-ranks_with ranks [] rank = refl
length-ranks_with ranks (at ∷ ready) rank = length-ranks_with (slice_set ranks at rank) ready rank ∙ length-set ranks at rank

pub ranks_with-push : (ranks ready : List ℕ) (at rank : ℕ) → ranks_with ranks (ready ++ at ∷ []) rank ≡ slice_set (ranks_with ranks ready rank) at rank
ranks_with-push ranks [] at rank = refl
ranks_with-push ranks (a ∷ ready) at rank = ranks_with-push (slice_set ranks a rank) ready at rank

raised : (a b : Bool) (q at x rank old : ℕ) → (a ≡ true → x ≡ rank) → (a ≡ false → x ≡ old) → cond b rank x ≡ cond (a || b) rank old
raised true true q at x rank old f g = refl
raised true false q at x rank old f g = f refl
raised false true q at x rank old f g = refl
raised false false q at x rank old f g = g refl

pub ranks_with-at : (ranks ready : List ℕ) (rank q : ℕ) → q < length ranks → slice_index (ranks_with ranks ready rank) q ≡ cond (has ready q) rank (slice_index ranks q)
ranks_with-at ranks [] rank q l = refl
ranks_with-at ranks (at ∷ ready) rank q l =
    ranks_with-at (slice_set ranks at rank) ready rank q (omega (arith, length-set ranks at rank))
    ∙ raised (eqb q at) (has ready q) q at (slice_index (slice_set ranks at rank) q) rank (slice_index ranks q)
    (λ e. let same : q ≡ at = eqb-true q at e in grind (arith, common_steps))
    (λ e. grind (arith, common_steps, nat_tests))

pub pairs_append : {X : Type 0} (R : X → X → Type 0) (xs ys : List X) → AllPairs R xs → AllPairs R ys → All (λ x. All (R x) ys) xs → AllPairs R (xs ++ ys)
pairs_append R [] ys p q a = q
pairs_append R (x ∷ xs) ys p q a =
    AllPairs-cons R x (xs ++ ys)
    (All-append (R x) xs ys (All-from_get_or (R x) xs x (λ i l. p 0 (suc i) x (omega arith) (omega arith))) (All-head (λ y. All (R y) ys) x xs a))
    (pairs_append R xs ys (λ i j d l m. p (suc i) (suc j) d (omega arith) (omega arith)) q (All-tail (λ y. All (R y) ys) x xs a))

pub pairs_map : {X Y : Type 0} (R : Y → Y → Type 0) (f : X → Y) (xs : List X) → AllPairs (λ a b. R (f a) (f b)) xs → AllPairs R (map f xs)
pairs_map R f [] p = λ i j d l m. absurd (omega arith)
pairs_map R f (x ∷ xs) p =
    AllPairs-cons R (f x) (map f xs)
    (All-map (R (f x)) f xs (All-from_get_or (λ y. R (f x) (f y)) xs x (λ i l. p 0 (suc i) x (omega arith) (omega arith))))
    (pairs_map R f xs (λ i j d l m. p (suc i) (suc j) d (omega arith) (omega arith)))
