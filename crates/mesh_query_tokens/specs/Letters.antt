-- The bytes that blanks, words, numbers and signs are made of.
use Rattle.std.specs.Prelude.{ℕ, ◌+◌, ◌*◌, ◌-◌, Bool, ◌&&◌, ◌||◌, nat_le, ◌==◌, List, [], ◌∷◌, map}
use Rattle.std.specs.Char.{to_ascii_lowercase}
use Rattle.mesh_base_values.specs.Names.{is_letter}

-- space, tab, carriage return and line feed
abbrev pub is_blank : ℕ → Bool
is_blank b = (b == 32) || (b == 9) || (b == 13) || (b == 10)

abbrev pub is_digit : ℕ → Bool
is_digit b = nat_le 48 b && nat_le b 57

-- a letter or an underscore
abbrev pub begins_word : ℕ → Bool
begins_word b = is_letter b || (b == 95)

-- ( ) [ ] , ; . * + - / % = < >
abbrev pub is_sign : ℕ → Bool
is_sign b = (b == 40) || (b == 41) || (b == 91) || (b == 93) || (b == 44) || (b == 59) || (b == 46) || (b == 42)
    || (b == 43) || (b == 45) || (b == 47) || (b == 37) || (b == 61) || (b == 60) || (b == 62)

-- <> != <= >= || :: :=
abbrev pub is_long_sign : ℕ → ℕ → Bool
is_long_sign a b = ((a == 60) && (b == 62)) || ((a == 33) && (b == 61)) || ((a == 60) && (b == 61)) || ((a == 62) && (b == 61))
    || ((a == 124) && (b == 124)) || ((a == 58) && (b == 58)) || ((a == 58) && (b == 61))

-- a text in lower case
abbrev pub lowered : List ℕ → List ℕ
lowered text = map to_ascii_lowercase text

-- the number that decimal digits say, after a number that digits before them said
abbrev pub decimal_after : ℕ → List ℕ → ℕ
decimal_after n [] = n
decimal_after n (b ∷ bs) = decimal_after (10 * n + (b - 48)) bs

-- the number that decimal digits say
abbrev pub decimal : List ℕ → ℕ
decimal digits = decimal_after 0 digits
