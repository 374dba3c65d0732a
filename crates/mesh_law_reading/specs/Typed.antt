-- When a value is of the type that was found for it, and over what.
use Rattle.std.specs.Prelude.{◌≡◌, true, ℕ, List, [], None, Some, slice_index_or}
use Rattle.std.specs.List.{All, Contains}
use Rattle.std.specs.Option.{ForSome}
use Rattle.mesh_base_values.specs.declared.values.Cell.{Cell}
use Rattle.mesh_base_values.specs.declared.values.Cell.TheVariants.{Null}
use Rattle.mesh_base_values.specs.declared.values.Column.{Column}
use Rattle.mesh_base_values.specs.Picked.{kind_of}
use Rattle.mesh_base.specs.declared.expressions.Expr.{Expr}
use Rattle.mesh_base.specs.declared.jobs.Input.{Input}
use Rattle.mesh_model_csv.specs.seeds.Fits.{is_of, fits}
use Rattle.mesh_spec_query.specs.Ev.{Ev, Scope, Seen, at_row}
use Rattle.mesh_resolve_types.specs.rules.Kinds.{Kind}
use Rattle.mesh_resolve_scope.specs.declared.sight.sight.Seen.{Seen as InSight}
use Rattle.mesh_resolve_scope.specs.declared.sight.sight.Sight.{Sight}
use Rattle.mesh_resolve.specs.declared.known.Known.{Known}
use Rattle.mesh_resolve.specs.Relations.{columns_named}

-- NULL or of the type; where no type is decided, NULL
abbrev pub HasKind : Kind → Cell → Type 0
HasKind None c = c ≡ Null
HasKind (Some kind) c = is_of kind c ≡ true

-- each column of each FROM item has NULL or a cell of its type
abbrev pub RowFits : List (List Column) → Seen → Type 0
RowFits columns row = (item : ℕ) (name : List ℕ) → is_of (kind_of (slice_index_or columns item []) name) (row item name) ≡ true

-- What an expression sees, of a row or of a group: the columns and the group's rows fit, and each key has the value
-- that it has for some row that fits.
pub record ScopeFits (columns : List (List Column)) (s : Scope) : Type 0 where
  pub row : RowFits columns s.column
  pub group : ForSome s.group (All (RowFits columns))
  pub keys : (e : Expr) → Contains s.keys e → (row : Seen) × RowFits columns row × (Ev e s ≡ Ev e (at_row s.bounds row))

-- an expression's value is of a type over all that fits
abbrev pub HasTypeOver : List (List Column) → Kind → Expr → Type 0
HasTypeOver columns kind e = (s : Scope) → ScopeFits columns s → HasKind kind (Ev e s)

-- what is in sight has these columns, by the places of the FROM items
abbrev pub HasColumns : List (List Column) → Sight → Type 0
HasColumns columns sight = All (λ (d : InSight). slice_index_or columns d.place [] ≡ d.columns) sight.from

-- a table has these columns, and its rows fit them
abbrev pub Fills : List Column → Input → Type 0
Fills columns input = (input.columns ≡ columns) × All (λ row. fits columns row ≡ true) input.rows

-- the tables of models and sources that are known have the columns that are known of them
abbrev pub Suits : Known → List Input → Type 0
Suits known inputs = All (λ (input : Input). (columns : List Column) → columns_named known input.name ≡ Some columns → Fills columns input) inputs
