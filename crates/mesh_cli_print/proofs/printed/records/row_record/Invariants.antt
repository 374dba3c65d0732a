use Rattle.std.proofs.Common.{◌≡◌, [], map, take}
use Rattle.csv.specs.Records.{fields_of, partial_of}
use Rattle.mesh_cli_print.specs.printed.Records.{field}
use Rattle.mesh_cli_print.proofs.printed.records.row_record.Given as goal

-- the cells so far are whole fields
abbrev pub invariant-loop-cell : goal.invariant-loop-cell
invariant-loop-cell l = (fields_of l.made ≡ map field (take l.cell-index l.cell-items)) × (partial_of l.made ≡ [])
