-- The names that records are kept under: the list of a thing's key.
use Rattle.std.specs.Prelude.{ℕ, List, [], ◌∷◌}
use Rattle.hex.specs.Hex.{encode_lower}
use Rattle.mesh_base_values.specs.declared.values.Name.{Name}
use Rattle.mesh_canon_text.specs.Text.{list_text}

-- what a book has besides its lists: there is one of it
abbrev pub head_key : List ℕ
head_key = list_text []

-- a snapshot, by its name and its fingerprint
abbrev pub snapshot_key : Name → List ℕ → List ℕ
snapshot_key n fingerprint = list_text (n.schema ∷ n.model ∷ encode_lower fingerprint ∷ [])

-- an environment, by its name
abbrev pub env_key : List ℕ → List ℕ
env_key name = list_text (name ∷ [])

-- a version, a view, an object or a source, by its name
abbrev pub thing_key : Name → List ℕ
thing_key n = list_text (n.schema ∷ n.model ∷ [])
