use Rattle.std.proofs.Common.{◌≡◌, [], map, take}
use Rattle.csv.specs.Records.{fields_of, partial_of}
use Rattle.mesh_cli_print.specs.printed.Records.{column_name}
use Rattle.mesh_cli_print.proofs.printed.records.head_record.Given as goal

-- the names so far are whole fields
abbrev pub invariant-loop-column : goal.invariant-loop-column
invariant-loop-column l = (fields_of l.made ≡ map column_name (take l.column-index l.columns)) × (partial_of l.made ≡ [])
