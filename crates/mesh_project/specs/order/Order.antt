-- What a model reads and reaches, its rank, the order of models by rank and name, and the models that reach themselves.
use Rattle.std.specs.Prelude.{◌≡◌, ◌<◌, ◌↔◌, ℕ, ◌+◌, max, Bool, true, ◌&&◌, nat_lt, List, [], ◌∷◌, length, map, filter, slice_index_or, Contains, All, IsTrue, ⊤}
use Rattle.std.specs.List.{list_any, range_with_len}
use Rattle.std.specs.declared.cmp.Ordering.{Ordering}
use Rattle.std.specs.Ordering.{is_eq, nat_cmp, ordering_then}
use Rattle.mesh_list.specs.Keyed.{ascends}
use Rattle.mesh_base_values.specs.declared.values.Name.{Name}
use Rattle.mesh_base_values.specs.Names.{name_cmp}
use Rattle.mesh_project.specs.declared.order.readers.Reader.{Reader}
use Rattle.mesh_project.specs.declared.order.readers.Ranked.{Ranked}
use Rattle.mesh_project.specs.declared.order.readers.Outcome.{Outcome}
use Rattle.mesh_project.specs.declared.order.readers.Outcome.TheVariants.{Ordered, Cyclic}
use Rattle.mesh_project.specs.declared.order.readers.OrderFault.{OrderFault}
use Rattle.mesh_project.specs.declared.order.readers.OrderFault.TheVariants.{Cycle, Memory}

-- the model at a place, or behind the last one of no name, which reads nothing
abbrev pub reader_at : List Reader → ℕ → Reader
reader_at models at = slice_index_or models at (record { name = record { schema = []; model = [] }; reads = [] })

-- its name
abbrev pub name_at : List Reader → ℕ → Name
name_at models at = (reader_at models at).name

-- a name is one of these
abbrev pub is_named : List Name → Name → Bool
is_named names name = list_any (λ n. is_eq (name_cmp n name)) names

-- the model at a place reads the one at another: it names it
abbrev pub reads : List Reader → ℕ → ℕ → Bool
reads models at other = nat_lt other (length models) && is_named (reader_at models at).reads (name_at models other)

-- no two models have one name
abbrev pub AreApart : List Reader → Type 0
AreApart models = (i j : ℕ) → i < length models → j < length models → name_at models i ≡ name_at models j → i ≡ j

-- the places of the models that the one at a place reads
abbrev pub parents : List Reader → ℕ → List ℕ
parents models at = filter (reads models at) (range_with_len 0 (length models))

-- 0 without numbers, and else one more than the greatest
abbrev pub above : List ℕ → ℕ
above [] = 0
above (n ∷ ns) = max (n + 1) (above ns)

-- these are the ranks of the models: each is 0 where a model reads none, and else one more than the greatest of those
-- that it reads
abbrev pub AreRanks : List Reader → (ℕ → ℕ) → Type 0
AreRanks models ranks = (at : ℕ) → at < length models → ranks at ≡ above (map ranks (parents models at))

-- by rank, and then by name
abbrev pub ranked_cmp : List Reader → Ranked → Ranked → Ordering
ranked_cmp models a b = ordering_then (nat_cmp a.rank b.rank) (name_cmp (name_at models a.at) (name_at models b.at))

-- where an item's model stands
abbrev pub place : Ranked → ℕ
place r = r.at

-- what is its own key
abbrev pub itself : {A : Type 0} → A → A
itself a = a

-- each item has the rank of its model
abbrev pub HaveRanks : List Reader → List Ranked → Type 0
HaveRanks models order = (ranks : ℕ → ℕ) × AreRanks models ranks × All (λ (r : Ranked). r.rank ≡ ranks r.at) order

-- The models by rank and name. As that ascends, none stands twice.
pub record IsOrder (models : List Reader) (order : List Ranked) : Type 0 where
  pub within : All (λ (r : Ranked). r.at < length models) order
  pub all : (at : ℕ) → at < length models → Contains (map place order) at
  pub ranks : HaveRanks models order
  pub ascending : ascends (ranked_cmp models) itself order ≡ true

-- one place reaches another: what stands there reads it, or reads one that reaches it
pub data Reaches (reads : ℕ → ℕ → Bool) (to : ℕ) : ℕ → Type 0 where
  at_once : (at : ℕ) → IsTrue (reads at to) → Reaches reads to at
  through : (at next : ℕ) → IsTrue (reads at next) → Reaches reads to next → Reaches reads to at

-- the model at a place reaches itself, in one step or more
abbrev pub ReachesItself : List Reader → ℕ → Type 0
ReachesItself models at = Reaches (reads models) at at

-- some model that reaches itself has this name
abbrev pub IsCyclic : List Reader → Name → Type 0
IsCyclic models name = (at : ℕ) × (at < length models) × (name_at models at ≡ name) × ReachesItself models at

-- the names of all models that reach themselves, ascending, of which there are some
pub record AreCyclic (models : List Reader) (names : List Name) : Type 0 where
  pub some : 0 < length names
  pub exactly : (name : Name) → Contains names name ↔ IsCyclic models name
  pub ascending : ascends name_cmp itself names ≡ true

-- a fault tells the models that reach themselves
abbrev pub MeansCycle : List Reader → OrderFault → Type 0
MeansCycle models (Cycle names) = AreCyclic models names
MeansCycle models Memory = ⊤

-- an order, or the models that reach themselves
abbrev pub MeansOutcome : List Reader → Outcome → Type 0
MeansOutcome models (Ordered order) = IsOrder models order
MeansOutcome models (Cyclic names) = AreCyclic models names
