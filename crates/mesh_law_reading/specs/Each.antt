-- What holds of every SELECT of a query.
use Rattle.std.specs.Prelude.{◌≡◌, true}
use Rattle.std.specs.List.{AllByRecursion}
use Rattle.mesh_base.specs.declared.queries.Query.{Query}
use Rattle.mesh_base.specs.declared.queries.Select.{Select}
use Rattle.mesh_base.specs.Outputs.{item_columns}
use Rattle.mesh_base.specs.rules.Seen.{are_distinct}

-- each SELECT, in the CTEs too
abbrev pub EachSelect : (Select → Type 0) → Query → Type 0
EachSelect R q = AllByRecursion (AllByRecursion R) q.ctes × AllByRecursion R q.selects

-- no two output columns have one name
abbrev pub HasDistinctNames : Select → Type 0
HasDistinctNames s = are_distinct (item_columns s.items) ≡ true
