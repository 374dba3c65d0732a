-- What keeps the rules of a SELECT: the rule on groups, and then names that stand twice.
use Rattle.std.specs.Prelude.{ℕ, Bool, true, false, ◌||◌, not, List, [], ◌∷◌, Result, Ok, Err}
use Rattle.std.specs.List.{list_any}
use Rattle.std.specs.Option.{is_some}
use Rattle.std.specs.declared.option.Option.{Option}
use Rattle.std.specs.declared.option.Option.TheVariants.{None, Some}
use Rattle.mesh_base.specs.declared.expressions.Expr.{Expr}
use Rattle.mesh_query_tokens.specs.Gives.{◌>>=◌}
use Rattle.mesh_query_tokens.specs.Walk.{provided, along}
use Rattle.mesh_query_tokens.specs.declared.faults.ReadFault.{ReadFault}
use Rattle.mesh_resolve_types.specs.declared.typed.Typed.{Typed}
use Rattle.mesh_resolve_types.specs.Faults.{not_grouped}
use Rattle.mesh_resolve_selects.specs.groups.Grouping.{has_aggregate, misplaced, ungrouped}
use Rattle.mesh_resolve_selects.specs.declared.outputs.keys.Key.{Key}
use Rattle.mesh_resolve_selects.specs.declared.outputs.keys.Key.TheVariants.{Part, Item, Missing}
use Rattle.mesh_resolve_selects.specs.declared.outputs.outputs.Output.{Output}
use Rattle.mesh_resolve_selects.specs.declared.selects.parts.Drawn.{Drawn}
use Rattle.mesh_resolve_selects.specs.declared.selects.parts.Walked.{Walked}
use Rattle.mesh_resolve_selects.specs.selects.Apart.{outputs_apart, items_apart}

abbrev pub Checked : Type 0
Checked = Result (Unit {0}) ReadFault

-- no place is at fault
abbrev pub none_at : Option ℕ → Checked
none_at None = Ok tt
none_at (Some at) = Err (not_grouped at)

abbrev pub without_aggregates : Typed → Checked
without_aggregates t = none_at (misplaced t.marks t.expr)

abbrev pub well_grouped : Bool → List Expr → Typed → Checked
well_grouped grouped keys t = none_at (ungrouped grouped keys t.marks t.expr)

-- each of several keeps a rule
abbrev pub each : {A : Type 0} → (A → Checked) → List A → Checked
each rule xs = along (λ so_far x. rule x) tt xs

abbrev pub some : {A : Type 0} → (A → Checked) → Option A → Checked
some rule None = Ok tt
some rule (Some x) = rule x

abbrev pub on_of : Drawn → Option Typed
on_of d = d.on

abbrev pub on_without_aggregates : Drawn → Checked
on_without_aggregates d = some without_aggregates d.on

-- a key has no aggregate, and its number is that of an item
abbrev pub is_right_key : Key → Checked
is_right_key (Part t) = without_aggregates t
is_right_key (Item at e) = provided (not (has_aggregate e)) tt (not_grouped at)
is_right_key (Missing at) = Err (not_grouped at)

abbrev pub output_has_aggregate : Output → Bool
output_has_aggregate o = has_aggregate o.typed.expr

abbrev pub is_empty : {A : Type 0} → List A → Bool
is_empty [] = true
is_empty (x ∷ xs) = false

-- by GROUP BY, by HAVING or by an aggregate in an item
abbrev pub is_grouped : Walked → Bool
is_grouped w = not (is_empty w.keys) || (is_some w.having || list_any output_has_aggregate w.outputs)

abbrev pub output_well_grouped : Bool → List Expr → Output → Checked
output_well_grouped grouped keys o = well_grouped grouped keys o.typed

-- the rule on groups, in the order of the walk
abbrev pub keeps_groups : Bool → List Expr → Walked → Checked
keeps_groups grouped keys w = do
  on ← each on_without_aggregates w.from
  filter ← some without_aggregates w.filter
  outputs ← each (output_well_grouped grouped keys) w.outputs
  written ← each is_right_key w.keys
  some (well_grouped grouped keys) w.having

-- the rule on groups, and then names that stand twice
abbrev pub stands : Bool → List Expr → Walked → Checked
stands grouped keys w = do
  rightly ← keeps_groups grouped keys w
  outputs ← outputs_apart w.outputs
  items_apart w.from
