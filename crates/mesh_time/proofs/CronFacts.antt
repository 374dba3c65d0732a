use Rattle.std.proofs.Common.{◌≡◌, ℕ, zero, suc, ◌+◌, ◌%◌, ◌-◌, ◌^◌, ◌<◌, ◌≤◌, Bool, true, false, not, ◌&&◌, ◌||◌, ◌==◌, nat_lt, refl, sym, subst, arith, IsTrue, inl, inr}
use Rattle.std.proofs.lemmas.Bool.{and_parts, or_cases, cases_eq, eqb-true, ne_eqb}
use Rattle.mesh_base_values.specs.Crons.{CronSets, has, has_date, is_cron, is_set, some_below}

pub not_so : (a b : Bool) → (not a || b) ≡ true → a ≡ true → b ≡ true
not_so true b h e = h
not_so false b h e = absurd (cc)

pub some_is : (p : ℕ → Bool) (n : ℕ) → some_below p n ≡ true → (k : ℕ) × (k < n) × (p k ≡ true)
unfolding some_below
some_is p zero h = absurd (cc)
some_is p (suc n) h =
    elim (or_cases (p n) (some_below p n) h) [
      | inl here ↦ (n, omega arith, here)
      | inr below ↦ let k = some_is p n below in (k.0, omega arith, k.2)
    ]

-- every number below n passes the test
abbrev all_below : (ℕ → Bool) → ℕ → Bool
all_below p zero = true
all_below p (suc n) = p n && all_below p n

all_is : (p : ℕ → Bool) (n k : ℕ) → all_below p n ≡ true → k < n → p k ≡ true
all_is p zero k h lt = absurd (omega arith)
all_is p (suc n) k h lt =
    let parts = and_parts (p n) (all_below p n) h in
    elim (cases_eq k n) [
      | inl e ↦ subst (λ m. p m ≡ true) (sym e) parts.0
      | inr ne ↦ all_is p n k parts.1 (omega arith)
    ]

pub each_day_of_week : (w : ℕ) → w < 7 → has 0x7f w ≡ true
unfolding has
each_day_of_week w h = all_is (has 0x7f) 7 w refl h

pub first_week : (d : ℕ) → 1 ≤ d → d ≤ 7 → has 0xffff_fffe d ≡ true
unfolding has
first_week d low high =
    subst (λ k. has 0xffff_fffe k ≡ true) (omega arith) (all_is (λ k. has 0xffff_fffe (k + 1)) 7 (d - 1) refl (omega arith))

-- what the test of a cron says
pub record Rule (c : CronSets) : Type 0 where
  pub minute : some_below (has c.minute) 60 ≡ true
  pub hour : some_below (has c.hour) 24 ≡ true
  pub month : some_below (has c.month) 13 ≡ true
  pub dow : some_below (has c.dow) 7 ≡ true
  pub no_month : has c.month 0 ≡ false
  pub no_day : has c.dom 0 ≡ false
  pub whole_month : c.dom_star ≡ true → c.dom ≡ 0xffff_fffe
  pub whole_week : c.dow_star ≡ true → c.dow ≡ 0x7f
  pub date : c.dow_star ≡ true → has_date c.month c.dom ≡ true

set_some : (low n set : ℕ) → is_set low n set ≡ true → some_below (has set) n ≡ true
unfolding is_set
set_some low n set h = (and_parts _ _ (and_parts _ _ h).1).1

set_zero : (n set : ℕ) → is_set 1 n set ≡ true → has set 0 ≡ false
unfolding is_set has
set_zero n set h =
    let even = eqb-true _ _ (and_parts (set % 2 ^ 1 == 0) (some_below (has set) n) (and_parts (nat_lt set (2 ^ n)) _ h).1).0 in
    ne_eqb _ _ (omega arith)

pub rule_of : (c : CronSets) → IsTrue (is_cron c) → Rule c
unfolding is_cron
rule_of c h =
    let minute = and_parts _ _ h in
    let single = and_parts _ _ minute.1 in
    let hour = and_parts _ _ single.1 in
    let dom = and_parts _ _ hour.1 in
    let month = and_parts _ _ dom.1 in
    let dow = and_parts _ _ month.1 in
    let dom_star = and_parts _ _ dow.1 in
    let dow_star = and_parts _ _ dom_star.1 in
    record {
      minute = set_some 0 60 c.minute minute.0;
      hour = set_some 0 24 c.hour hour.0;
      month = set_some 1 13 c.month month.0;
      dow = set_some 0 7 c.dow dow.0;
      no_month = set_zero 13 c.month month.0;
      no_day = set_zero 32 c.dom dom.0;
      whole_month = λ e. eqb-true _ _ (not_so _ _ dom_star.0 e);
      whole_week = λ e. eqb-true _ _ (not_so _ _ dow_star.0 e);
      date = λ e. not_so _ _ dow_star.1 e;
    }

pub positive : (set k : ℕ) → has set 0 ≡ false → has set k ≡ true → 1 ≤ k
positive set k none some =
    elim (cases_eq k 0) [
      | inl e ↦ absurd (let some_zero = subst (λ z. has set z ≡ true) e some in cc)
      | inr ne ↦ omega arith
    ]
