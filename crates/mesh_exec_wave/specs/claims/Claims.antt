-- A word that many seats draw numbers from. A seat has some of sixty-four parts of it, and the numbers that it drew.
use Rattle.std.specs.Prelude.{◌≡◌, ◌+◌, ◌-◌, ◌/◌, ◌%◌, ◌^◌, ℕ, zero, suc, nat_eq, if◌then◌else◌, List, [], ◌∷◌, ◌++◌}
use mathlib.Core.Option.{some}
use lib.ListN.{get_elem?}
use Rattle.atomic_table.specs.Table.{Me, Step}
use Rattle.mesh_exec_wave.specs.declared.claims.claimed.Claimed.{Claimed}

-- so many parts, and these numbers
abbrev pub held : ℕ → List ℕ → Claimed
held parts drawn = record { parts = parts; drawn = drawn }

-- h of each number, added up. Two lists are one bag where these sums are the same for every h.
unfoldable pub weigh : (ℕ → ℕ) → List ℕ → ℕ
weigh h [] = 0
weigh h (x ∷ xs) = h x + weigh h xs

-- the same of all that was drawn
unfoldable pub total : (ℕ → ℕ) → List Claimed → ℕ
total h [] = 0
total h (v ∷ vs) = weigh h v.drawn + total h vs

unfoldable pub parts_of : List Claimed → ℕ
parts_of [] = 0
parts_of (v ∷ vs) = v.parts + parts_of vs

-- the same of the numbers below k, each modulo 2^64
unfoldable pub below : (ℕ → ℕ) → ℕ → ℕ
below h zero = 0
below h (suc k) = below h k + h (k % 2 ^ 64)

-- a seat without parts has drawn nothing
abbrev pub IdleIsEmpty : List Claimed → Type 0
IdleIsEmpty views = (i : ℕ) (v : Claimed) → get_elem? views i ≡ some v → v.parts ≡ 0 → v.drawn ≡ []

-- What was drawn is, as a bag, the numbers below some k, each modulo 2^64, and the word is k modulo 2^64. The seats
-- have all parts between them.
abbrev pub Claims : List ℕ → List Claimed → Type 0
Claims words views = (k : ℕ) × (words ≡ (k % 2 ^ 64) ∷ []) × ((h : ℕ → ℕ) → total h views ≡ below h k) × (parts_of views ≡ 64) × IdleIsEmpty views

-- a number was drawn
abbrev pub drew : Step (Unit {0}) → Me (Unit {0}) Claimed → ℕ → Me (Unit {0}) Claimed → Type 0
drew _ me n after = after ≡ (held me.0.parts (me.0.drawn ++ n ∷ []), me.1)

-- these are all numbers that were drawn, and the word counts them
abbrev pub AreAll : ℕ → List ℕ → Type 0
AreAll word drawn = (k : ℕ) × (word ≡ k % 2 ^ 64) × ((h : ℕ → ℕ) → weigh h drawn ≡ below h k)

-- the word was told to a seat that has all parts
abbrev pub told : Step (Unit {0}) → Me (Unit {0}) Claimed → ℕ → Me (Unit {0}) Claimed → Type 0
told _ me n after = (after ≡ me) × AreAll n me.0.drawn

-- a seat that is cut in two keeps its numbers and half of its parts
abbrev pub kept_half : Claimed → Claimed
kept_half v = held (v.parts - v.parts / 2) v.drawn

abbrev pub given_half : Claimed → Claimed
given_half v = held (v.parts / 2) []

-- a seat that takes in another one
abbrev pub joined : Claimed → Claimed → Claimed
joined v w = held (v.parts + w.parts) (v.drawn ++ w.drawn)

-- how often a number was drawn
abbrev pub one_if : ℕ → ℕ → ℕ
one_if n x = if nat_eq x n then 1 else 0

abbrev pub times : ℕ → List ℕ → ℕ
times n drawn = weigh (one_if n) drawn
