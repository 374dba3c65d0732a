-- Incremental models whose adjoining units can be computed by one query over all of them: a unit's rows are those of
-- the longer interval that lie in the unit.
use Rattle.std.specs.Prelude.{ℕ, Bool, true, false, not, ◌&&◌, ◌||◌, if◌then◌else◌, List, [], ◌∷◌, Some, None}
use Rattle.std.specs.List.{find, list_any}
use Rattle.std.specs.declared.option.Option.{Option}
use Rattle.mesh_base_values.specs.Picked.{same_text}
use Rattle.mesh_base_values.specs.declared.kinds.Kind.{Kind}
use Rattle.mesh_base_values.specs.declared.kinds.Kind.TheVariants.{Incremental}
use Rattle.mesh_base.specs.declared.definitions.Defn.{Defn}
use Rattle.mesh_base.specs.declared.definitions.Defn.TheVariants.{Sql}
use Rattle.mesh_base.specs.declared.definitions.Own.{Own}
use Rattle.mesh_base.specs.declared.expressions.Expr.{Expr, fold-Expr, out-Expr, para-Expr}
use Rattle.mesh_base.specs.declared.expressions.Expr.TheOpen.{Expr-F, When-F, Literal, Col, Macro, Binary, Neg, Not, IsNull, Between, OneOf, Cast, Call, Case, CountAll, Agg}
use Rattle.mesh_base.specs.declared.expressions.When.{When, fold-When}
use Rattle.mesh_base.specs.declared.queries.FromItem.{FromItem}
use Rattle.mesh_base.specs.declared.queries.Item.{Item}
use Rattle.mesh_base.specs.declared.queries.Select.{Select}
use Rattle.mesh_spec_changes.specs.steady.Steady.{are_ends, is_and, is_column}

-- a macro stands in an expression: one node, with the answer for each part
abbrev pub macro_here : Expr-F Bool Bool → Bool
macro_here (Literal c) = false
macro_here (Col item name) = false
macro_here (Macro var) = true
macro_here (Binary op left right) = left || right
macro_here (Neg value) = value
macro_here (Not value) = value
macro_here (IsNull value) = value
macro_here (Between value low high) = value || (low || high)
macro_here (OneOf value of) = value || list_any (λ b. b) of
macro_here (Cast to value) = value
macro_here (Call func args) = list_any (λ b. b) args
macro_here (Case whens otherwise) = list_any (λ b. b) whens || otherwise
macro_here CountAll = false
macro_here (Agg kind value) = value

abbrev pub when_macro : When-F Bool Bool → Bool
when_macro w = w.test || w.value

abbrev pub has_macro : Expr → Bool
has_macro = fold-Expr Bool Bool macro_here when_macro

abbrev pub macro_when : When → Bool
macro_when = fold-When Bool Bool macro_here when_macro

abbrev pub has_macro_in : Option Expr → Bool
has_macro_in None = false
has_macro_in (Some e) = has_macro e

-- One node: `x.c BETWEEN` the start `AND` the end of the unit; or an AND of which just one side has macros, and that
-- side has all of them in such a conjunct.
abbrev pub binds_here : ℕ → List ℕ → Expr-F (Expr × Bool) (When × Bool) → Bool
binds_here item name (Binary op left right) = is_and op && (if has_macro right.0 then right.1 && not (has_macro left.0) else left.1)
binds_here item name (Between value low high) = is_column item name value.0 && are_ends low.0 high.0
binds_here item name other = false

abbrev pub when_binds : When-F (Expr × Bool) (When × Bool) → Bool
when_binds w = false

-- just one conjunct at the top of a condition has macros, and it binds this column of a FROM item to the unit
abbrev pub binds : ℕ → List ℕ → Expr → Bool
binds item name = para-Expr Bool Bool (binds_here item name) when_binds

-- the same of a node
abbrev pub binds_parts : ℕ → List ℕ → Expr-F Expr When → Bool
binds_parts item name (Binary op left right) = is_and op && (if has_macro right then binds item name right && not (has_macro left) else binds item name left)
binds_parts item name (Between value low high) = is_column item name value && are_ends low high
binds_parts item name other = false

abbrev pub binds_in : ℕ → List ℕ → Option Expr → Bool
binds_in item name None = false
binds_in item name (Some e) = binds item name e

-- WHERE binds the column that an expression is, if it is one
abbrev pub is_bound_here : Option Expr → Expr-F Expr When → Bool
is_bound_here filter (Col item name) = binds_in item name filter
is_bound_here filter other = false

abbrev pub is_item_bound : Option Expr → Option Item → Bool
is_item_bound filter None = false
is_item_bound filter (Some i) = is_bound_here filter (out-Expr i.expr)

-- the item of that name
abbrev pub item_named : List Item → List ℕ → Option Item
item_named items name = find (λ (i : Item). same_text i.name name) items

-- a macro stands elsewhere than in WHERE: in an item, an ON condition, a key or HAVING
abbrev pub has_macro_elsewhere : Select → Bool
has_macro_elsewhere s =
    list_any (λ (i : Item). has_macro i.expr) s.items
    || (list_any (λ (f : FromItem). has_macro_in f.on) s.from
    || (list_any has_macro s.keys || has_macro_in s.having))

-- a SELECT without DISTINCT and groups, whose macros bind the column that the item of the time column is
abbrev pub is_joinable_select : List ℕ → Select → Bool
is_joinable_select time s = not s.distinct && (not s.grouped && (not (has_macro_elsewhere s) && is_item_bound s.filter (item_named s.items time)))

-- no CTE, and one SELECT
abbrev pub is_joinable_query : List ℕ → List (List Select) → List Select → Bool
is_joinable_query time [] (s ∷ []) = is_joinable_select time s
is_joinable_query time ctes selects = false

abbrev pub is_joinable_defn : List ℕ → Defn → Bool
is_joinable_defn time (Sql q) = is_joinable_query time q.ctes q.selects
is_joinable_defn time other = false

abbrev pub is_joinable_as : Defn → Kind → Bool
is_joinable_as d (Incremental time lookback) = is_joinable_defn time d
is_joinable_as d other = false

-- a model is incremental, and so is its query
abbrev pub is_joinable : Own → Bool
is_joinable own = is_joinable_as own.defn own.kind
