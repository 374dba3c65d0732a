-- What holds of orders, ranks and cycles, whatever the models are.
use Rattle.std.specs.Prelude.{◌≡◌, ◌<◌, ℕ, List, length, slice_index_or, IsTrue}
use Rattle.mesh_base_values.specs.declared.values.Name.{Name}
use Rattle.mesh_project.specs.declared.order.readers.Reader.{Reader}
use Rattle.mesh_project.specs.declared.order.readers.Ranked.{Ranked}
use Rattle.mesh_project.specs.order.Order.{AreCyclic, AreRanks, IsOrder, ReachesItself, reads}

-- models have one assignment of ranks
abbrev pub AreRanksOne : Type 0
AreRanksOne = (models : List Reader) (f g : ℕ → ℕ) → AreRanks models f → AreRanks models g → (at : ℕ) → at < length models → f at ≡ g at

-- models have one order
abbrev pub AreOrdersOne : Type 0
AreOrdersOne = (models : List Reader) (a b : List Ranked) → IsOrder models a → IsOrder models b → a ≡ b

-- models have one list of names of those that reach themselves
abbrev pub AreCyclesOne : Type 0
AreCyclesOne = (models : List Reader) (a b : List Name) → AreCyclic models a → AreCyclic models b → a ≡ b

-- where there is an order, no model reaches itself
abbrev pub HasNoCycle : Type 0
HasNoCycle = (models : List Reader) (order : List Ranked) → IsOrder models order → (at : ℕ) → at < length models → ReachesItself models at → ⊥

-- the item of an order at a place of its own
abbrev pub item_at : List Ranked → ℕ → Ranked
item_at order k = slice_index_or order k (record { at = 0; rank = 0 })

-- in an order each model that a model reads stands before it, with a lower rank
abbrev pub StandBefore : Type 0
StandBefore = (models : List Reader) (order : List Ranked) → IsOrder models order → (k other : ℕ) → k < length order → IsTrue (reads models (item_at order k).at other)
    → (m : ℕ) × (m < k) × ((item_at order m).at ≡ other) × ((item_at order m).rank < (item_at order k).rank)

-- an order has as many items as there are models
abbrev pub AreAsMany : Type 0
AreAsMany = (models : List Reader) (order : List Ranked) → IsOrder models order → length order ≡ length models
