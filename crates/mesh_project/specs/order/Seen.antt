-- The places that are reached from one.
use Rattle.std.specs.Prelude.{◌≡◌, ◌==◌, ◌<◌, ◌⊎◌, ℕ, Bool, true, false, List, [], ◌∷◌, ◌++◌, length, slice_index, slice_index_or, All, AllPairs, Contains}
use Rattle.std.specs.List.{IsDistinct, list_any}
use Rattle.std.specs.declared.cmp.Ordering.TheVariants.{Less}
use Rattle.mesh_base_values.specs.declared.values.Name.{Name}
use Rattle.mesh_base_values.specs.Names.{name_cmp}
use Rattle.mesh_project.specs.declared.order.readers.Reader.{Reader}
use Rattle.mesh_project.specs.order.Order.{Reaches, name_at}
use Rattle.mesh_project.specs.order.Links.{has, leads}

-- what is marked is what is seen, each once
pub record AreMarks (marks : List Bool) (seen : List ℕ) : Type 0 where
  pub same : (at : ℕ) → at < length marks → slice_index_or marks at false ≡ has seen at
  pub within : (at : ℕ) → has seen at ≡ true → at < length marks
  pub distinct : IsDistinct (λ a b. a == b) seen

-- what was seen stays where it is, and these are seen besides, and no others
pub record IsGrown (before after more : List ℕ) : Type 0 where
  pub longer : (added : List ℕ) × (after ≡ before ++ added)
  pub only : (at : ℕ) → has after at ≡ true → (has before at ≡ true) ⊎ (has more at ≡ true)
  pub all : (at : ℕ) → has more at ≡ true → has after at ≡ true

-- a place is the first one or reached from it
abbrev pub IsFrom : List (List ℕ) → ℕ → ℕ → Type 0
IsFrom links start at = (at ≡ start) ⊎ Reaches (leads links) at start

-- All that is seen is the first place or reached from it, and what the first so many of them lead to is seen.
pub record AreSeen (links : List (List ℕ)) (start : ℕ) (seen : List ℕ) (next : ℕ) : Type 0 where
  pub first : has seen start ≡ true
  pub only : (at : ℕ) → has seen at ≡ true → IsFrom links start at
  pub closed : (k at : ℕ) → k < next → k < length seen → leads links (slice_index seen k) at ≡ true → has seen at ≡ true

-- whether one of these places leads to that one
abbrev pub some_lead_to : List (List ℕ) → List ℕ → ℕ → Bool
some_lead_to links seen at = list_any (λ s. leads links s at) seen

-- the names of those of the first so many places that reach themselves, ascending
pub record AreNamed (models : List Reader) (links : List (List ℕ)) (places : List ℕ) (count : ℕ) (names : List Name) : Type 0 where
  pub only : All (λ name. (k : ℕ) × (k < count) × (name ≡ name_at models (slice_index places k)) × Reaches (leads links) (slice_index places k) (slice_index places k)) names
  pub all : (k : ℕ) → k < count → Reaches (leads links) (slice_index places k) (slice_index places k) → Contains names (name_at models (slice_index places k))
  pub ascending : AllPairs (λ a b. name_cmp a b ≡ Less) names

-- the name at a place is added where the model there reaches itself
abbrev pub IsNext : List Reader → List (List ℕ) → ℕ → List Name → List Name → Type 0
IsNext models links at before after =
    (Reaches (leads links) at at × (after ≡ before ++ name_at models at ∷ [])) ⊎ ((Reaches (leads links) at at → ⊥) × (after ≡ before))
