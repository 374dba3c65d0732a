-- What the audits that need no file find, in words of the model's own rows.
use Rattle.std.specs.Prelude.{ℕ, pos, Bool, List, [], ◌∷◌, length, map}
use Rattle.std.specs.List.{filter, list_any}
use Rattle.std.specs.Ordering.{int_cmp, is_gt}
use Rattle.std.specs.declared.option.Option.{Option}
use Rattle.mesh_base_values.specs.Picked.{cell_of}
use Rattle.mesh_base_values.specs.declared.values.Cell.{Cell}
use Rattle.mesh_base_values.specs.declared.values.Cell.TheVariants.{Int}
use Rattle.mesh_base_values.specs.declared.values.Column.{Column}
use Rattle.mesh_base_values.specs.declared.values.Name.{Name}
use Rattle.mesh_base.specs.declared.jobs.Input.{Input}
use Rattle.mesh_base.specs.declared.queries.Rel.TheVariants.{Named}
use Rattle.mesh_spec_query.specs.Aggregates.{distinct}
use Rattle.mesh_spec_query.specs.Cells.{is_null}
use Rattle.mesh_spec_query.specs.Sel.{same_row}
use Rattle.mesh_spec_query.specs.Tables.{columns_in, relation, rows_in}

-- the row that stands for each row, or each value, that is found
abbrev pub mark_row : List Cell
mark_row = Int (pos 1) ∷ []

-- one of the columns is NULL in a row
abbrev pub has_null : List Column → List (List ℕ) → List Cell → Bool
has_null columns names row = list_any (λ name. is_null (cell_of columns row name)) names

-- the rows of a table in which one of the columns is NULL
abbrev pub rows_with_null : Option Input → List (List ℕ) → List (List Cell)
rows_with_null table names = filter (has_null (columns_in table) names) (rows_in table)

-- the values of a column, each as a row of one cell
abbrev pub values_of : Option Input → List ℕ → List (List Cell)
values_of table name = map (λ row. cell_of (columns_in table) row name ∷ []) (rows_in table)

-- a value stands more than once among these, NULL being one value
abbrev pub stands_again : List (List Cell) → List Cell → Bool
stands_again values value = is_gt (int_cmp (pos (length (filter (same_row value) values))) (pos 1))

-- the values that stand more than once, each once
abbrev pub repeats : List (List Cell) → List (List Cell)
repeats values = filter (stands_again values) (distinct same_row values)

-- the table of a model, where there is one
abbrev pub table_at : List Input → Name → Option Input
table_at tables model = relation tables [] (Named model)
