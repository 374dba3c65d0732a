-- The columns that a condition binds to the unit, which are gathered at one walk.
use Rattle.std.specs.Prelude.{◌≡◌, ℕ, Bool, ◌&&◌, ◌||◌, nat_eq, List}
use Rattle.std.specs.List.{list_any}
use Rattle.std.specs.declared.option.Option.{Option}
use Rattle.mesh_base_values.specs.Picked.{same_text}
use Rattle.mesh_base.specs.declared.expressions.Expr.{Expr}
use Rattle.mesh_spec_query.specs.Named.{Place}
use Rattle.mesh_spec_changes.specs.steady.Steady.{bounds_in}

-- this column is one of some
abbrev pub has_place : List Place → ℕ → List ℕ → Bool
has_place places item name = list_any (λ (p : Place). nat_eq p.0 item && same_text p.1 name) places

-- some columns, and all others of which a test is true
abbrev pub Gains : List Place → List Place → (ℕ → List ℕ → Bool) → Type 0
Gains old new test = (item : ℕ) (name : List ℕ) → has_place new item name ≡ (has_place old item name || test item name)

-- just those that a WHERE binds to the unit
abbrev pub AreBound : List Place → Option Expr → Type 0
AreBound places filter = (item : ℕ) (name : List ℕ) → has_place places item name ≡ bounds_in item name filter
