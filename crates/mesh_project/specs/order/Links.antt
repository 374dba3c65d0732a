-- Models as numbers, with the places of those that each one reads.
use Rattle.std.specs.Prelude.{◌≡◌, ◌==◌, ◌<◌, ◌≤◌, ℕ, Bool, true, List, [], length, slice_index_or, All, AllPairs, None, Some}
use Rattle.std.specs.List.{list_any}
use Rattle.std.specs.BTreeMap.{BTreeMap, get}
use Rattle.std.specs.declared.option.Option.{Option}
use Rattle.std.specs.declared.cmp.Ordering.TheVariants.{Less}
use Rattle.mesh_base_values.specs.declared.values.Name.{Name}
use Rattle.mesh_base_values.specs.Names.{name_cmp}
use Rattle.mesh_project.specs.declared.order.readers.Reader.{Reader}
use Rattle.mesh_project.specs.order.Order.{name_at, reads}

-- a number stands in a list
abbrev pub has : List ℕ → ℕ → Bool
has ns n = list_any (λ m. n == m) ns

-- a place leads to another
abbrev pub leads : List (List ℕ) → ℕ → ℕ → Bool
leads links at other = has (slice_index_or links at []) other

-- each place leads to those of the models that its own one reads
pub record AreLinks (models : List Reader) (links : List (List ℕ)) : Type 0 where
  pub as_many : length links ≡ length models
  pub same : (at other : ℕ) → leads links at other ≡ reads models at other

-- each place leads to places alone
abbrev pub AreWithin : List (List ℕ) → Type 0
AreWithin links = (at other : ℕ) → leads links at other ≡ true → other < length links

-- where the model of a name stands among the first so many, or that there is none
abbrev pub IsPlaceOf : List Reader → ℕ → Name → Option ℕ → Type 0
IsPlaceOf models count name None = (at : ℕ) → at < count → name_at models at ≡ name → ⊥
IsPlaceOf models count name (Some at) = (at < count) × (name_at models at ≡ name)

-- where the model of each name stands
abbrev pub ArePlaces : List Reader → BTreeMap Name ℕ → Type 0
ArePlaces models places = (name : Name) → IsPlaceOf models (length models) name (get name_cmp places name)

-- the name at a place is below that at another
abbrev pub IsBelow : List Reader → ℕ → ℕ → Type 0
IsBelow models a b = name_cmp (name_at models a) (name_at models b) ≡ Less

-- all places, by the names there
pub record AreByName (models : List Reader) (places : List ℕ) : Type 0 where
  pub within : All (λ at. at < length models) places
  pub all : (at : ℕ) → at < length models → has places at ≡ true
  pub ascending : AllPairs (IsBelow models) places
  pub few : length places ≤ length models
