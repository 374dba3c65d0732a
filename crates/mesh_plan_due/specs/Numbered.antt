-- The numbers of models among those by name, kept by the models' places.
use Rattle.std.specs.Prelude.{◌≡◌, ◌≢◌, ◌<◌, ◌≤◌, ◌+◌, ℕ, true, false, slice_index_or, length, List, Some}
use Rattle.std.specs.Int.{bit_at}
use Rattle.std.specs.List.{slice_get}
use Rattle.mesh_plan_due.specs.declared.marks.Spot.{Spot}
use Rattle.mesh_plan_due.specs.Lineages.{has_bit}
use Rattle.mesh_plan_due.specs.Marked.{counts}

-- the places of these models are below a number, and no two have one place
pub record ArePlaced (count : ℕ) (spots : List Spot) : Type 0 where
  pub below : (i : ℕ) (s : Spot) → slice_get spots i ≡ Some s → s.place < count
  pub one : (i j : ℕ) (s t : Spot) → slice_get spots i ≡ Some s → slice_get spots j ≡ Some t → s.place ≡ t.place → i ≡ j

-- at each model's place stands its number
pub record IsNumbering (spots : List Spot) (numbers : List ℕ) : Type 0 where
  pub below : (i : ℕ) (s : Spot) → slice_get spots i ≡ Some s → s.place < length numbers
  pub each : (i : ℕ) (s : Spot) → slice_get spots i ≡ Some s → slice_index_or numbers s.place 0 ≡ i
  pub few : (p : ℕ) → slice_index_or numbers p 0 ≤ length spots

-- a word has no bit from one place on to the other
abbrev pub HasNone : ℕ → ℕ → ℕ → Type 0
HasNone word from to = (b : ℕ) → from ≤ b → b < to → bit_at word b ≡ 0

-- a bit of a word stands at a place, and none below
abbrev pub IsLowest : ℕ → ℕ → Type 0
IsLowest word place = (bit_at word place ≡ 1) × HasNone word 0 place

-- a word without the bit at a place
abbrev pub IsWithout : ℕ → ℕ → ℕ → Type 0
IsWithout word place rest = (bit_at rest place ≡ 0) × ((b : ℕ) → b ≢ place → bit_at rest b ≡ bit_at word b)

-- no bit of a row is lost in the other
abbrev pub KeepsBits : List ℕ → List ℕ → Type 0
KeepsBits old new = (i : ℕ) → has_bit old i ≡ true → has_bit new i ≡ true

-- a row has the number at a place, where there is one
abbrev pub HasNumber : List ℕ → List ℕ → ℕ → Type 0
HasNumber numbers row p = p < length numbers → has_bit row (slice_index_or numbers p 0) ≡ true

-- of the 64 models from the first those count alone whose bits a word has
abbrev pub HasCounted : List Spot → List ℕ → ℕ → ℕ → ℕ → Type 0
HasCounted spots row place word first = (b : ℕ) (s : Spot) → b < 64 → slice_get spots (first + b) ≡ Some s → bit_at word b ≡ 0 → counts row place s ≡ false
