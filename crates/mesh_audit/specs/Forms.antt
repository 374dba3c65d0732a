-- The queries of the audits that need no file.
use Rattle.std.specs.Prelude.{ℕ, pos, true, false, List, [], ◌∷◌, codes, map, Some, None}
use Rattle.mesh_base_values.specs.declared.values.Cell.TheVariants as cell
use Rattle.mesh_base_values.specs.declared.values.ColType.TheVariants as type
use Rattle.mesh_base_values.specs.declared.values.Name.{Name}
use Rattle.mesh_base.specs.declared.expressions.Expr.{Expr}
use Rattle.mesh_base.specs.declared.expressions.Expr as expr
use Rattle.mesh_base.specs.declared.expressions.Op.TheVariants.{Gt}
use Rattle.mesh_base.specs.declared.expressions.When.{When}
use Rattle.mesh_base.specs.declared.queries.FromItem.{FromItem}
use Rattle.mesh_base.specs.declared.queries.Item.{Item}
use Rattle.mesh_base.specs.declared.queries.Join.TheVariants.{First}
use Rattle.mesh_base.specs.declared.queries.Query.{Query}
use Rattle.mesh_base.specs.declared.queries.Rel.TheVariants.{Named}
use Rattle.mesh_base.specs.declared.queries.Select.{Select}

-- `1 AS found`: what a row that is found shows
abbrev pub one : Item
one = record { name = codes "found"; kind = type.Int; expr = expr.Literal (cell.Int (pos 1)) }

-- `FROM model`
abbrev pub read_alone : Name → List FromItem
read_alone model = record { join = First; rel = Named model; on = None } ∷ []

-- `WHEN column IS NULL THEN TRUE`
abbrev pub when_null : List ℕ → When
when_null column = record { test = expr.IsNull (expr.Col 0 column); value = expr.Literal (cell.Bool true) }

-- one of the columns is NULL: `CASE WHEN column IS NULL THEN TRUE .. ELSE FALSE END`
abbrev pub is_some_null : List (List ℕ) → Expr
is_some_null columns = expr.Case (map when_null columns) (expr.Literal (cell.Bool false))

-- `not_null`: the rows of a model in which one of the columns is NULL
abbrev pub not_null : Name → List (List ℕ) → Query
not_null model columns = record {
  ctes = [];
  selects = record { distinct = false; grouped = false; items = one ∷ []; from = read_alone model; filter = Some (is_some_null columns); keys = []; having = None } ∷ [];
}

-- `COUNT(*) > 1`
abbrev pub stands_twice : Expr
stands_twice = expr.Binary Gt expr.CountAll (expr.Literal (cell.Int (pos 1)))

-- one row for each value of a column that stands more than once: `GROUP BY column HAVING COUNT(*) > 1`
abbrev pub repeated : Name → List ℕ → Select
repeated model column = record { distinct = false; grouped = true; items = one ∷ []; from = read_alone model; filter = None; keys = expr.Col 0 column ∷ []; having = Some stands_twice }

-- `unique_values`: the values that stand more than once, of each column by itself, joined by UNION ALL
abbrev pub unique_values : Name → List (List ℕ) → Query
unique_values model columns = record { ctes = []; selects = map (repeated model) columns }
