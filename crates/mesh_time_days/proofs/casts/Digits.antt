-- Digits that say a number past a limit.
use Rattle.std.proofs.Common.{◌≡◌, ℕ, ◌+◌, ◌-◌, ◌*◌, ◌/◌, ◌<◌, ◌≤◌, Bool, true, false, List, [], ◌∷◌, drop, length, Option, Some, None, refl, sym, arith}
use Rattle.std.proofs.lemmas.List.{drop_all}
use borrow.Author.Tests.{lt-leb}
use Rattle.std.specs.Char.{is_ascii_digit}
use Rattle.mesh_time_days.specs.casts.Casts.{at_most, digits_after}

-- further digits make no number less
pub past_limit : (most n : ℕ) (bs : List ℕ) → most < n → at_most most (digits_after n bs) ≡ None
unfolding digits_after
past_limit most n [] lt = rw (lt-leb n most lt) refl
past_limit most n (b ∷ bs) lt = by (is_ascii_digit b) refl (past_limit most (n * 10 + (b - 48)) bs (omega arith))
  where
    by : (t : Bool) → is_ascii_digit b ≡ t → at_most most (digits_after (n * 10 + (b - 48)) bs) ≡ None → at_most most (digits_after n (b ∷ bs)) ≡ None
    by true e more = rw e more
    by false e more = rw e refl

-- a number that is too large before a byte
pub past_here : (most n x : ℕ) (text rest : List ℕ) (i : ℕ) → most / 10 < n → drop i text ≡ x ∷ rest → digits_after n (drop i text) ≡ digits_after 0 text
    → ◌≡◌ {A = Option ℕ} None (at_most most (digits_after 0 text))
unfolding digits_after
past_here most n x text rest i lt at so_far = by (is_ascii_digit x) refl
  where
    by : (t : Bool) → is_ascii_digit x ≡ t → ◌≡◌ {A = Option ℕ} None (at_most most (digits_after 0 text))
    by true e = rw (← so_far, at, e) (sym (past_limit most (n * 10 + (x - 48)) rest (omega arith)))
    by false e = rw (← so_far, at, e) refl

-- a byte that is no digit
pub no_digit : (most n x : ℕ) (text rest : List ℕ) (i : ℕ) → is_ascii_digit x ≡ false → drop i text ≡ x ∷ rest → digits_after n (drop i text) ≡ digits_after 0 text
    → ◌≡◌ {A = Option ℕ} None (at_most most (digits_after 0 text))
unfolding digits_after
no_digit most n x text rest i e at so_far = rw (← so_far, at, e) refl

-- one more digit
pub one_more : (n x : ℕ) (text rest : List ℕ) (i : ℕ) → is_ascii_digit x ≡ true → drop i text ≡ x ∷ rest → digits_after n (drop i text) ≡ digits_after 0 text
    → digits_after (n * 10 + (x - 48)) rest ≡ digits_after 0 text
unfolding digits_after
one_more n x text rest i e at so_far = rw (← so_far, at, e) refl

-- no byte is left
pub all_read : (most n : ℕ) (text : List ℕ) (i : ℕ) → length text ≤ i → digits_after n (drop i text) ≡ digits_after 0 text
    → at_most most (digits_after 0 text) ≡ at_most most (Some n)
unfolding digits_after
all_read most n text i le so_far = rw (← so_far, drop_all i text le) refl
