-- The parts of an option, the texts of truth values, numbers and fingerprints, and how these are read.
use Rattle.std.specs.Prelude.{ℕ, ℤ, ◌-◌, ◌^◌, ◌==◌, ◌&&◌, nat_lt, Bool, true, false, List, [], ◌∷◌, length, codes, Some, None, Result, Ok, Err}
use Rattle.std.specs.declared.option.Option.{Option}
use Rattle.std.specs.List.{list_all}
use Rattle.hex.specs.Hex.{decode_sized}
use Rattle.mesh_canon_reading.specs.Reading.{whole}
use Rattle.mesh_canon_words.specs.Words.{number_at, signed_at}

-- no part, or that of the value
abbrev pub option_parts : {A : Type 0} → (A → List ℕ) → Option A → List (List ℕ)
option_parts text None = []
option_parts text (Some x) = text x ∷ []

-- the value fits, where there is one
abbrev pub option_fits : {A : Type 0} → (A → Bool) → Option A → Bool
option_fits fits None = true
option_fits fits (Some x) = fits x

-- a truth value
abbrev pub bool_word : Bool → List ℕ
bool_word true = codes "true"
bool_word false = codes "false"

-- a number of 32 bits
abbrev pub is_count : ℕ → Bool
is_count n = nat_lt n (2 ^ 32)

-- the bytes of a fingerprint
abbrev pub is_digest : List ℕ → Bool
is_digest d = (length d == 32) && list_all (λ b. nat_lt b 256) d

-- a number of 64 bits with a sign that is all of these bytes
unfoldable pub signed_in : List ℕ → Option ℤ
signed_in bytes = whole (signed_at (2 ^ 63 - 1) bytes)

-- a number of 32 bits that is all of these bytes
unfoldable pub number_in : List ℕ → Option ℕ
number_in bytes = whole (number_at (2 ^ 32 - 1) bytes)

-- a result, where there is one
abbrev pub ok_only : {A E : Type 0} → Result A E → Option A
ok_only (Ok x) = Some x
ok_only (Err e) = None

-- the fingerprint whose digits, in either case, are all of these bytes
abbrev pub digits_in : List ℕ → Option (List ℕ)
digits_in bytes = ok_only (decode_sized bytes 32)
