-- Models by rank, one rank after another, and those that are left.
use Rattle.std.specs.Prelude.{◌≡◌, ◌<◌, ◌≤◌, ◌⊎◌, ◌+◌, ℕ, suc, min, Bool, true, false, nat_lt, List, [], ◌∷◌, ◌++◌, length, filter, map, not, replicate, slice_index, slice_index_or, slice_set, All, AllPairs}
use Rattle.std.specs.List.{list_all}
use Rattle.mesh_project.specs.declared.order.readers.Reader.{Reader}
use Rattle.mesh_project.specs.declared.order.readers.Ranked.{Ranked}
use Rattle.mesh_project.specs.declared.order.peel.Peeled.{Peeled}
use Rattle.mesh_project.specs.order.Order.{place}
use Rattle.mesh_project.specs.order.Links.{has, leads, IsBelow}

-- all that a place leads to have ranks below this one
abbrev pub is_ready : List (List ℕ) → List ℕ → ℕ → ℕ → Bool
is_ready links ranks rank at = list_all (λ p. nat_lt (slice_index ranks p) rank) (slice_index_or links at [])

-- a model at a rank
abbrev pub at_rank : ℕ → ℕ → Ranked
at_rank rank at = record { at = at; rank = rank }

-- by rank, and at one rank by name
abbrev pub ComesBefore : List Reader → Ranked → Ranked → Type 0
ComesBefore models a b = (a.rank < b.rank) ⊎ ((a.rank ≡ b.rank) × IsBelow models a.at b.at)

-- a place that leads to one whose rank is this or the one before, or any place for 0
abbrev pub IsReached : List (List ℕ) → List ℕ → ℕ → ℕ → Type 0
IsReached links ranks rank at = (rank ≡ 0) ⊎ ((p : ℕ) × (leads links at p ≡ true) × (rank ≤ suc (slice_index ranks p)))

-- The models of all ranks below this one are found. Those without a rank have as many as there are models in its place.
pub record IsPeeled (models : List Reader) (links : List (List ℕ)) (ranks : List ℕ) (order : List Ranked) (rest : List ℕ) (rank : ℕ) : Type 0 where
  pub as_many : length ranks ≡ length links
  pub bounded : (at : ℕ) → at < length links → rank ≤ slice_index ranks at → slice_index ranks at ≡ length links
  pub left : (at : ℕ) → at < length links → slice_index ranks at ≡ length links → has rest at ≡ true
  pub unranked : (at : ℕ) → has rest at ≡ true → (at < length links) × (slice_index ranks at ≡ length links)
  pub above : (at p : ℕ) → at < length links → slice_index ranks at < length links → leads links at p ≡ true → slice_index ranks p < slice_index ranks at
  pub reached : (at : ℕ) → at < length links → IsReached links ranks (min (slice_index ranks at) rank) at
  pub ordered : AllPairs (ComesBefore models) order
  pub within : All (λ (r : Ranked). r.at < length links) order
  pub ranked : All (λ (r : Ranked). (r.rank ≡ slice_index ranks r.at) × (r.rank < rank)) order
  pub all : (at : ℕ) → at < length links → slice_index ranks at < length links → has (map place order) at ≡ true
  pub by_name : AllPairs (IsBelow models) rest
  pub few : rank + length rest ≤ length links

-- each of these places leads to one of them
abbrev pub AreStuck : List (List ℕ) → List ℕ → Type 0
AreStuck links rest = (at : ℕ) → has rest at ≡ true → (p : ℕ) × (leads links at p ≡ true) × (has rest p ≡ true)

-- the ranks where these models have this one
abbrev pub ranks_with : List ℕ → List ℕ → ℕ → List ℕ
ranks_with ranks [] rank = ranks
ranks_with ranks (at ∷ ats) rank = ranks_with (slice_set ranks at rank) ats rank

-- those that are ready for a rank
abbrev pub ready_of : List (List ℕ) → List ℕ → ℕ → List ℕ → List ℕ
ready_of links ranks rank rest = filter (is_ready links ranks rank) rest

-- the others
abbrev pub later_of : List (List ℕ) → List ℕ → ℕ → List ℕ → List ℕ
later_of links ranks rank rest = filter (λ at. not (is_ready links ranks rank at)) rest

-- no model has a rank
pub record IsUnpeeled (count : ℕ) (by_name : List ℕ) (made : Peeled) : Type 0 where
  pub ranks : made.ranks.items ≡ replicate count count
  pub order : made.order ≡ []
  pub rest : made.rest ≡ by_name

-- those that are ready have this rank, of which there are some
pub record AreRanked (links : List (List ℕ)) (rank : ℕ) (before after : Peeled) : Type 0 where
  pub some : 0 < length (ready_of links before.ranks.items rank before.rest)
  pub ranks : after.ranks.items ≡ ranks_with before.ranks.items (ready_of links before.ranks.items rank before.rest) rank
  pub order : after.order ≡ before.order ++ map (at_rank rank) (ready_of links before.ranks.items rank before.rest)
  pub rest : after.rest ≡ later_of links before.ranks.items rank before.rest

-- none is ready, and nothing has changed
pub record IsEnd (links : List (List ℕ)) (rank : ℕ) (before after : Peeled) : Type 0 where
  pub none : length (ready_of links before.ranks.items rank before.rest) ≡ 0
  pub ranks : after.ranks.items ≡ before.ranks.items
  pub order : after.order ≡ before.order
  pub rest : after.rest ≡ before.rest

-- one rank more, or the end
abbrev pub IsRound : List (List ℕ) → ℕ → Bool → Peeled → Peeled → Type 0
IsRound links rank true before after = AreRanked links rank before after
IsRound links rank false before after = IsEnd links rank before after

-- all models have their ranks but those that are left, each of which reads one that is left
pub record IsDone (models : List Reader) (links : List (List ℕ)) (made : Peeled) : Type 0 where
  pub rank : ℕ
  pub peeled : IsPeeled models links made.ranks.items made.order made.rest rank
  pub stuck : AreStuck links made.rest
