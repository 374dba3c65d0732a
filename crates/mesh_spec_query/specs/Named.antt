-- The columns that an expression names, and what a scope shows of some columns alone.
use Rattle.std.specs.Prelude.{ℕ, Bool, if◌then◌else◌, List, [], ◌∷◌, ◌++◌, map, ◌≡◌, true}
use Rattle.std.specs.Option.{option_map}
use Rattle.std.specs.List.{flat_map, list_all}
use Rattle.mesh_base_values.specs.declared.values.Cell.TheVariants.{Null}
use Rattle.mesh_base.specs.declared.expressions.Expr.{Expr, fold-Expr}
use Rattle.mesh_base.specs.declared.expressions.Expr.TheOpen.{Expr-F, When-F, Literal, Col, Macro, Binary, Neg, Not, IsNull, Between, OneOf, Cast, Call, Case, CountAll, Agg}
use Rattle.mesh_base.specs.declared.expressions.When.{When, fold-When}
use Rattle.mesh_spec_query.specs.Ev.{Scope, Seen}

abbrev pub Place : Type 0
Place = ℕ × List ℕ

abbrev pub columns_here : Expr-F (List Place) (List Place) → List Place
columns_here (Literal c) = []
columns_here (Col item name) = (item, name) ∷ []
columns_here (Macro var) = []
columns_here (Binary op left right) = left ++ right
columns_here (Neg value) = value
columns_here (Not value) = value
columns_here (IsNull value) = value
columns_here (Between value low high) = value ++ (low ++ high)
columns_here (OneOf value of) = value ++ flat_map (λ x. x) of
columns_here (Cast to value) = value
columns_here (Call func args) = flat_map (λ x. x) args
columns_here (Case whens otherwise) = flat_map (λ x. x) whens ++ otherwise
columns_here CountAll = []
columns_here (Agg kind value) = value

abbrev pub columns_when : When-F (List Place) (List Place) → List Place
columns_when w = w.test ++ w.value

abbrev pub columns : Expr → List Place
columns = fold-Expr (List Place) (List Place) columns_here columns_when

abbrev pub when_columns : When → List Place
when_columns = fold-When (List Place) (List Place) columns_here columns_when

-- only the columns of which a test is true; the others are NULL
abbrev pub masked : (ℕ → List ℕ → Bool) → Seen → Seen
masked shown row item name = if shown item name then row item name else Null

abbrev pub only : (ℕ → List ℕ → Bool) → Scope → Scope
only shown s = record s { column = masked shown s.column; group = option_map (map (masked shown)) s.group }

abbrev pub Covers : (ℕ → List ℕ → Bool) → List Place → Type 0
Covers shown places = list_all (λ (p : Place). shown p.0 p.1) places ≡ true
