-- The sides of each UNION ALL.
use Rattle.std.specs.Prelude.{Bool, ◌&&◌, List, Result}
use Rattle.std.specs.List.{list_all}
use Rattle.mesh_base_values.specs.declared.values.Column.{Column}
use Rattle.mesh_base_values.specs.Types.{have_same_types}
use Rattle.mesh_base.specs.declared.queries.Query.{Query}
use Rattle.mesh_base.specs.declared.queries.Select.{Select}
use Rattle.mesh_base.specs.Outputs.{item_columns, select_columns}
use Rattle.mesh_query_tokens.specs.Walk.{provided}
use Rattle.mesh_query_tokens.specs.declared.faults.ReadFault.{ReadFault}
use Rattle.mesh_resolve_types.specs.Faults.{mismatch}

-- two sides of a UNION ALL have as many columns, of the same types in the same order
abbrev pub has_kinds_of : List Column → Select → Bool
has_kinds_of columns s = have_same_types columns (item_columns s.items)

abbrev pub are_sides_alike : List Select → Bool
are_sides_alike all = list_all (has_kinds_of (select_columns all)) all

-- a query whose sides of each UNION ALL are alike
abbrev pub with_sides_alike : List (List Select) → List Select → Result Query ReadFault
with_sides_alike ctes selects =
    provided (list_all are_sides_alike ctes && are_sides_alike selects) (record { ctes = ctes; selects = selects }) (mismatch 0)
