-- Units that are computed again, from the last one on.
use Rattle.std.proofs.Common.{◌≡◌, ℕ, zero, suc, ◌+◌, ◌<◌, ◌≤◌, min, Bool, true, false, ◌||◌, cond, nat_lt, List, [], ◌∷◌, ◌++◌, map, length, take, drop, get_or, reverse, refl, sym, ap, ◌∙◌, arith}
use Rattle.std.specs.List.{list_any}
use Rattle.std.specs.declared.option.Option.{Option}
use Rattle.std.proofs.lemmas.Bool.Decides.{nat_tests}
use Rattle.std.proofs.lemmas.List.{drop_more, reverse-append}
use Rattle.mesh_base_values.specs.declared.times.Bounds.{Bounds}
use Rattle.mesh_base_values.proofs.Tests.{below_false as not_below}
use Rattle.mesh_base.specs.declared.forgets.Restate.{Restate}
use Rattle.mesh_time.specs.Ranges.{is_held}
use Rattle.mesh_spec_changes.specs.due.Dues.{touches_days}
use Rattle.mesh_plan_due.specs.declared.stands.Stand.{Stand}
use Rattle.mesh_plan_due.specs.declared.stands.Stand.TheVariants.{Lacking, Restated, Kept}
use Rattle.mesh_plan_due.specs.Stands.{again_in, clear_before, clear_of, is_again, is_open, stand, stand_of, units_again}

kept_near : (x n m : ℕ) → suc m ≤ n → nat_lt (min (x + 1) n) (suc m) ≡ nat_lt x m
kept_near x n m h = grind (arith, nat_tests)

-- there is an open unit among so many where fewer are clear
pub near_is : (n m : ℕ) → m ≤ n → (ss : List Stand) → nat_lt (clear_of n ss) m ≡ list_any is_open (take m ss)
near_is n m h [] = not_below n m h ∙ sym (ap (list_any is_open) (none m))
  where
    none : (k : ℕ) → take {A = Stand} k [] ≡ []
    none zero = refl
    none (suc k) = refl
near_is n zero h (s ∷ ss) = not_below (clear_of n (s ∷ ss)) 0 (omega arith)
near_is n (suc m) h (s ∷ ss) = go s (near_is n m (omega (arith, h)) ss)
  where
    go : (s : Stand) → nat_lt (clear_of n ss) m ≡ list_any is_open (take m ss) → nat_lt (clear_before n s (clear_of n ss)) (suc m) ≡ (is_open s || list_any is_open (take m ss))
    go Lacking e = grind (arith, nat_tests)
    go Restated e = grind (arith, nat_tests)
    go Kept e = kept_near (clear_of n ss) n m h ∙ e

-- behind the last unit there is none
pub nothing_behind : (n : ℕ) (us : List Bounds) (ss : List Stand) (k : ℕ) → length ss ≤ k → again_in n (drop k us) (drop k ss) ≡ []
nothing_behind n us ss k h = ap (again_in n (drop k us)) (past ss k h) ∙ none (drop k us)
  where
    past : (xs : List Stand) (j : ℕ) → length xs ≤ j → drop j xs ≡ []
    past [] zero h = refl
    past [] (suc j) h = refl
    past (x ∷ xs) zero h = absurd (omega (arith, h))
    past (x ∷ xs) (suc j) h = past xs j (omega (arith, h))

    none : (vs : List Bounds) → again_in n vs [] ≡ []
    none [] = refl
    none (v ∷ vs) = refl

pub clear_behind : (n : ℕ) (ss : List Stand) (k : ℕ) → length ss ≤ k → n ≡ clear_of n (drop k ss)
clear_behind n [] zero h = refl
clear_behind n [] (suc k) h = refl
clear_behind n (x ∷ xs) zero h = absurd (omega (arith, h))
clear_behind n (x ∷ xs) (suc k) h = clear_behind n xs k (omega (arith, h))

-- one unit before
module _ (n : ℕ) (us : List Bounds) (ss : List Stand) (k : ℕ) (u v : Bounds) (s z : Stand) (in_units : k < length us) (in_stands : k < length ss) (unit : get_or us k v ≡ u) (stood : get_or ss k z ≡ s) where
  units_from_here : drop k us ≡ u ∷ drop (k + 1) us
  units_from_here = drop_more us k v in_units ∙ ap (λ x. x ∷ drop (k + 1) us) unit

  stands_from_here : drop k ss ≡ s ∷ drop (k + 1) ss
  stands_from_here = drop_more ss k z in_stands ∙ ap (λ x. x ∷ drop (k + 1) ss) stood

  again_here : again_in n (drop k us) (drop k ss) ≡ cond (is_again (nat_lt (clear_of n (drop (k + 1) ss)) n) s) (u ∷ again_in n (drop (k + 1) us) (drop (k + 1) ss)) (again_in n (drop (k + 1) us) (drop (k + 1) ss))
  again_here =
      (λ i. again_in n (units_from_here i) (stands_from_here i))
      ∙ ap (λ b. cond (is_again b s) (u ∷ again_in n (drop (k + 1) us) (drop (k + 1) ss)) (again_in n (drop (k + 1) us) (drop (k + 1) ss))) (sym (near_is n n (omega arith) (drop (k + 1) ss)))

  pub clear_here : (clear : ℕ) → clear ≡ clear_of n (drop (k + 1) ss) → clear_before n s clear ≡ clear_of n (drop k ss)
  clear_here clear e = ap (clear_before n s) e ∙ sym (ap (clear_of n) stands_from_here)

  module _ (made : List Bounds) (is : reverse made ≡ again_in n (drop (k + 1) us) (drop (k + 1) ss)) (clear : ℕ) (cleared : clear ≡ clear_of n (drop (k + 1) ss)) where
    pub one_again : is_again (nat_lt clear n) s ≡ true → reverse (made ++ u ∷ []) ≡ again_in n (drop k us) (drop k ss)
    one_again t =
        reverse-append made (u ∷ []) ∙ ap (λ l. u ∷ l) is
        ∙ sym (again_here ∙ ap (λ b. cond b (u ∷ again_in n (drop (k + 1) us) (drop (k + 1) ss)) (again_in n (drop (k + 1) us) (drop (k + 1) ss))) (ap (λ c. is_again (nat_lt c n) s) (sym cleared) ∙ t))

    pub none_again : is_again (nat_lt clear n) s ≡ false → reverse made ≡ again_in n (drop k us) (drop k ss)
    none_again t =
        is
        ∙ sym (again_here ∙ ap (λ b. cond b (u ∷ again_in n (drop (k + 1) us) (drop (k + 1) ss)) (again_in n (drop (k + 1) us) (drop (k + 1) ss))) (ap (λ c. is_again (nat_lt c n) s) (sym cleared) ∙ t))

-- without a lookback, nothing of a model that isn't named is computed again
pub nothing_again : (r : Option Restate) (spans us : List Bounds) → units_again 0 false r spans us ≡ []
nothing_again r spans [] = refl
nothing_again r spans (u ∷ us) = go (is_held spans u.start u.end) (nothing_again r spans us)
  where
    go : (b : Bool) → units_again 0 false r spans us ≡ []
        → cond (is_again (list_any is_open (take 0 (map (stand false r spans) us))) (stand_of b false (touches_days r u))) (u ∷ units_again 0 false r spans us) (units_again 0 false r spans us) ≡ []
    go true e = e
    go false e = e
