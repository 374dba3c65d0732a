-- Each step keeps the rule.
use Rattle.std.proofs.Common.{◌≡◌, ◌≤◌, ◌<◌, ◌≢◌, ℕ, zero, suc, ◌+◌, ◌%◌, ◌^◌, List, [], ◌∷◌, ◌++◌, set, slice_index, sym, refl, ap, ap₂, ◌∙◌, subst, arith, ⊎_elim}
use mathlib.Core.Option.{some, some-injective, some-ne-none}
use lib.ListN.{get_elem?}
use Rattle.atomic_table.specs.Table.{State, Me, Step, Allows, Splits, Joins, keeps}
use Rattle.atomic_table.proofs.Lists.{set_again, at_set, at_snoc}
use Rattle.mesh_exec_wave.specs.declared.claims.claimed.Claimed.{Claimed}
use Rattle.mesh_exec_wave.specs.claims.Claims.{Claims, IdleIsEmpty, held, weigh, total, parts_of, below, drew, told, kept_half, given_half, joined}

pub weigh-append : (h : ℕ → ℕ) (xs ys : List ℕ) → weigh h (xs ++ ys) ≡ weigh h xs + weigh h ys
unfolding weigh
weigh-append h [] ys = omega arith
weigh-append h (x ∷ xs) ys = let e = weigh-append h xs ys in omega arith

pub total_set : (h : ℕ → ℕ) (views : List Claimed) (i : ℕ) (v w : Claimed) → get_elem? views i ≡ some v → total h (set views i w) + weigh h v.drawn ≡ total h views + weigh h w.drawn
unfolding total
total_set h [] i v w at = absurd (some-ne-none v (sym at))
total_set h (x ∷ xs) zero v w at = let e : weigh h x.drawn ≡ weigh h v.drawn = ap (λ (u : Claimed). weigh h u.drawn) (some-injective x v at) in omega arith
total_set h (x ∷ xs) (suc i) v w at = let e = total_set h xs i v w at in omega arith

pub total_snoc : (h : ℕ → ℕ) (views : List Claimed) (w : Claimed) → total h (views ++ w ∷ []) ≡ total h views + weigh h w.drawn
unfolding total
total_snoc h [] w = omega arith
total_snoc h (x ∷ xs) w = let e = total_snoc h xs w in omega arith

pub parts_set : (views : List Claimed) (i : ℕ) (v w : Claimed) → get_elem? views i ≡ some v → parts_of (set views i w) + v.parts ≡ parts_of views + w.parts
unfolding parts_of
parts_set [] i v w at = absurd (some-ne-none v (sym at))
parts_set (x ∷ xs) zero v w at = let e : x.parts ≡ v.parts = ap (λ (u : Claimed). u.parts) (some-injective x v at) in omega arith
parts_set (x ∷ xs) (suc i) v w at = let e = parts_set xs i v w at in omega arith

pub parts_snoc : (views : List Claimed) (w : Claimed) → parts_of (views ++ w ∷ []) ≡ parts_of views + w.parts
unfolding parts_of
parts_snoc [] w = omega arith
parts_snoc (x ∷ xs) w = let e = parts_snoc xs w in omega arith

idle_set : (views : List Claimed) (i : ℕ) (w : Claimed) → (w.parts ≡ 0 → w.drawn ≡ []) → IdleIsEmpty views → IdleIsEmpty (set views i w)
idle_set views i w new old j u at none = ⊎_elim
    (λ (t : (j ≡ i) × (w ≡ u)). subst (λ (z : Claimed). z.parts ≡ 0 → z.drawn ≡ []) t.1 new none)
    (λ (t : (j ≢ i) × (get_elem? views j ≡ some u)). old j u t.1 none)
    (at_set views i j w u at)

idle_snoc : (views : List Claimed) (w : Claimed) → (w.parts ≡ 0 → w.drawn ≡ []) → IdleIsEmpty views → IdleIsEmpty (views ++ w ∷ [])
idle_snoc views w new old j u at none = ⊎_elim
    (λ was. old j u was none)
    (λ (t : w ≡ u). subst (λ (z : Claimed). z.parts ≡ 0 → z.drawn ≡ []) t new none)
    (at_snoc views w u j at)

wraps : (k : ℕ) → (k % 2 ^ 64 + 1) % 2 ^ 64 ≡ suc k % 2 ^ 64
wraps k = omega arith

pub draws : (slots id : ℕ) (me : Me (Unit {0}) Claimed) (st : Step (Unit {0})) → 0 < me.0.parts → Allows (λ (s : State (Unit {0}) Claimed). Claims s.words s.views) slots id me 0 (λ n. (n + 1) % 2 ^ 64) (drew st me)
unfolding weigh below
draws slots id me st some_part s h len at small =
    let n : ℕ = slice_index s.words 0 in
    let same : n ≡ h.0 % 2 ^ 64 = ap (λ ws. slice_index ws 0) h.1 in
    let w : Claimed = held me.0.parts (me.0.drawn ++ n ∷ []) in (
      w,
      keeps,
      tt,
      (
        suc h.0,
        ap (λ ws. set ws 0 ((slice_index ws 0 + 1) % 2 ^ 64)) h.1 ∙ ap (λ (x : ℕ). x ∷ []) (wraps h.0),
        (λ g.
            let a = total_set g s.views id me.0 w at in
            let b = weigh-append g me.0.drawn (n ∷ []) in
            let c = h.2 g in
            let d : g n ≡ g (h.0 % 2 ^ 64) = ap g same in
            omega arith),
        (let a = parts_set s.views id me.0 w at in let b = h.3 in omega arith),
        idle_set s.views id w (λ none. absurd (omega arith)) h.4,
      ),
      refl,
    )

pub splits : (id : ℕ) (v : Claimed) → Splits (λ (s : State (Unit {0}) Claimed). Claims s.words s.views) id v (kept_half v) (given_half v)
unfolding weigh
splits id v s h at =
    let left = set s.views id (kept_half v) in (
      h.0,
      h.1,
      (λ g.
          let a = total_snoc g left (given_half v) in
          let b = total_set g s.views id v (kept_half v) at in
          let c = h.2 g in
          omega arith),
      (let a = parts_snoc left (given_half v) in let b = parts_set s.views id v (kept_half v) at in let c = h.3 in omega arith),
      idle_snoc left (given_half v) (λ _. refl) (idle_set s.views id (kept_half v) (λ none. h.4 id v at (omega arith)) h.4),
    )

pub joins : (id : ℕ) (v : Claimed) (other : ℕ) (w : Claimed) → Joins (λ (s : State (Unit {0}) Claimed). Claims s.words s.views) id v other w (joined v w) (held 0 [])
unfolding weigh
joins id v other w s h at apart there =
    let both = set s.views id (joined v w) in (
      h.0,
      h.1,
      (λ g.
          let a = total_set g s.views id v (joined v w) at in
          let b = total_set g both other w (held 0 []) there in
          let e = weigh-append g v.drawn w.drawn in
          let c = h.2 g in
          omega arith),
      (let a = parts_set s.views id v (joined v w) at in let b = parts_set both other w (held 0 []) there in let c = h.3 in omega arith),
      idle_set both other (held 0 []) (λ _. refl) (idle_set s.views id (joined v w) (λ none.
          ap₂ (λ (a b : List ℕ). a ++ b) (h.4 id v at (omega arith)) (was_empty none)) h.4),
    )
  where
    was_empty : v.parts + w.parts ≡ 0 → w.drawn ≡ []
    was_empty none = ⊎_elim
        (λ (t : (other ≡ id) × (joined v w ≡ w)). absurd (apart t.0))
        (λ (t : (other ≢ id) × (get_elem? s.views other ≡ some w)). h.4 other w t.1 (omega arith))
        (at_set s.views id other (joined v w) w there)

pub opens : Claims (0 ∷ []) (held 64 [] ∷ [])
unfolding weigh total below parts_of
opens = (0, refl, (λ g. refl), refl, one)
  where
    one : IdleIsEmpty (held 64 [] ∷ [])
    one zero v at none = sym (ap (λ (u : Claimed). u.drawn) (some-injective (held 64 []) v at))
    one (suc i) v at none = absurd (some-ne-none v (sym at))

-- no part at all: nothing was drawn
nothing : (h : ℕ → ℕ) (xs : List Claimed) → parts_of xs ≡ 0 → IdleIsEmpty xs → total h xs ≡ 0
unfolding total parts_of weigh
nothing h [] e idle = refl
nothing h (x ∷ xs) e idle =
    let a : weigh h x.drawn ≡ 0 = ap (weigh h) (idle 0 x refl (omega arith)) in
    let b = nothing h xs (omega arith) (λ i v at none. idle (suc i) v at none) in
    omega arith

among : (xs : List Claimed) (i : ℕ) (v : Claimed) → get_elem? xs i ≡ some v → v.parts ≤ parts_of xs
unfolding parts_of
among [] i v at = absurd (some-ne-none v (sym at))
among (x ∷ xs) zero v at = let e : x.parts ≡ v.parts = ap (λ (u : Claimed). u.parts) (some-injective x v at) in omega arith
among (x ∷ xs) (suc i) v at = let e = among xs i v at in omega arith

sole : (h : ℕ → ℕ) (xs : List Claimed) (i : ℕ) (v : Claimed) → get_elem? xs i ≡ some v → v.parts ≡ parts_of xs → IdleIsEmpty xs → total h xs ≡ weigh h v.drawn
unfolding total parts_of weigh
sole h [] i v at e idle = absurd (some-ne-none v (sym at))
sole h (x ∷ xs) zero v at e idle =
    let p : x.parts ≡ v.parts = ap (λ (u : Claimed). u.parts) (some-injective x v at) in
    let d : weigh h x.drawn ≡ weigh h v.drawn = ap (λ (u : Claimed). weigh h u.drawn) (some-injective x v at) in
    let b = nothing h xs (omega arith) (λ j u there none. idle (suc j) u there none) in
    omega arith
sole h (x ∷ xs) (suc i) v at e idle =
    let m = among xs i v at in
    let a : weigh h x.drawn ≡ 0 = ap (weigh h) (idle 0 x refl (omega arith)) in
    let b = sole h xs i v at (omega arith) (λ j u there none. idle (suc j) u there none) in
    omega arith

pub learns : (slots id : ℕ) (me : Me (Unit {0}) Claimed) (st : Step (Unit {0})) → me.0.parts ≡ 64 → Allows (λ (s : State (Unit {0}) Claimed). Claims s.words s.views) slots id me 0 (λ n. n) (told st me)
learns slots id me st all s h len at small =
    let same : slice_index s.words 0 ≡ h.0 % 2 ^ 64 = ap (λ ws. slice_index ws 0) h.1 in
    let back : set s.views id me.0 ≡ s.views = set_again s.views id me.0 at in (
      me.0,
      keeps,
      tt,
      (
        h.0,
        ap (λ ws. set ws 0 (slice_index ws 0)) h.1,
        (λ g. ap (total g) back ∙ h.2 g),
        ap parts_of back ∙ h.3,
        subst IdleIsEmpty (sym back) h.4,
      ),
      (refl, (h.0, same, (λ g. sym (sole g s.views id me.0 at (all ∙ sym h.3) h.4) ∙ h.2 g))),
    )
