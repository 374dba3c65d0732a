-- Decimal digits, read one by one.
use Rattle.std.proofs.Common.{◌≡◌, ℕ, ◌+◌, ◌-◌, ◌*◌, ◌<◌, ◌≤◌, true, false, Some, None, refl, List, ◌∷◌}
use Rattle.std.specs.Char.{is_ascii_digit}
use Rattle.std.proofs.lemmas.Bool.{le-leb, lt-leb}
use Rattle.mesh_canon_words.specs.Words.{digits_at}

-- a digit more, where the number stays within its limit
pub digit_more : (most n b : ℕ) (bytes : List ℕ) → is_ascii_digit b ≡ true → n * 10 + (b - 48) ≤ most → digits_at most n (b ∷ bytes) ≡ digits_at most (n * 10 + (b - 48)) bytes
unfolding digits_at
digit_more most n b bytes digit le = rw (digit, le-leb (n * 10 + (b - 48)) most le) refl

-- a digit too many
pub digit_over : (most n b : ℕ) (bytes : List ℕ) → is_ascii_digit b ≡ true → most < n * 10 + (b - 48) → digits_at most n (b ∷ bytes) ≡ None
unfolding digits_at
digit_over most n b bytes digit lt = rw (digit, lt-leb (n * 10 + (b - 48)) most lt) refl

-- no digit
pub digit_none : (most n b : ℕ) (bytes : List ℕ) → is_ascii_digit b ≡ false → digits_at most n (b ∷ bytes) ≡ Some (n, b ∷ bytes)
unfolding digits_at
digit_none most n b bytes none = rw none refl
