-- FROM items' places with columns whose names lie elsewhere.
use Rattle.std.specs.Prelude.{◌≡◌, ◌<◌, ℕ, List, map, slice_index_or}
use Rattle.std.specs.Borrow.{Bor}
use Rattle.mesh_spec_query.specs.Named.{Place}

abbrev pub place_of : ℕ × Bor (List ℕ) → Place
place_of (item, name) = (item, name.now)

abbrev pub places_of : List (ℕ × Bor (List ℕ)) → List Place
places_of all = map place_of all

-- the same place stands before
abbrev pub IsAgain : List (ℕ × Bor (List ℕ)) → ℕ → Type 0
IsAgain all i = (k : ℕ) × (k < i) × ((other : ℕ × Bor (List ℕ)) → place_of (slice_index_or all k other) ≡ place_of (slice_index_or all i other))
