-- The tables that a query reads.
use Rattle.std.specs.Prelude.{List, [], slice_get}
use Rattle.std.specs.List.{find}
use Rattle.std.specs.Ordering.{is_eq}
use Rattle.std.specs.declared.option.Option.{Option}
use Rattle.std.specs.declared.option.Option.TheVariants.{None, Some}
use Rattle.mesh_base.specs.declared.jobs.Input.{Input}
use Rattle.mesh_base_values.specs.declared.values.Cell.{Cell}
use Rattle.mesh_base_values.specs.declared.values.Column.{Column}
use Rattle.mesh_base.specs.declared.queries.Rel.{Rel}
use Rattle.mesh_base.specs.declared.queries.Rel.TheVariants.{Named, Cte}
use Rattle.mesh_base_values.specs.Names.{name_cmp}

-- the input of that name, or one of the CTEs so far by its place
abbrev pub relation : List Input → List Input → Rel → Option Input
relation inputs ctes (Named name) = find (λ input. is_eq (name_cmp input.name name)) inputs
relation inputs ctes (Cte k) = slice_get ctes k

abbrev pub columns_in : Option Input → List Column
columns_in None = []
columns_in (Some input) = input.columns

abbrev pub rows_in : Option Input → List (List Cell)
rows_in None = []
rows_in (Some input) = input.rows
