use Rattle.std.proofs.Common.{◌++◌, ℕ, List, map, take}
use Rattle.std.specs.List.{flat_map}
use Rattle.csv.specs.Writing.{default_writer, row_text}
use Rattle.mesh_cli_print.specs.printed.Records.{field}
use Rattle.mesh_cli_print.specs.printed.Writers.{Holds}
use Rattle.mesh_cli_print.proofs.printed.records.put_rows.Given as goal

-- the records so far were written behind what was there
abbrev pub invariant-loop-row : goal.invariant-loop-row
invariant-loop-row g l =
    (text : List ℕ) → Holds g.W.Write.contents l.initial.writer text
    → Holds g.W.Write.contents l.writer (text ++ flat_map (row_text default_writer) (map (map field) (take l.row-index l.rows)))
