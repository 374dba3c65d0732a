use Rattle.std.proofs.Common.{◌++◌, ℕ, List, OnOk, subst}
use Rattle.csv.specs.Writing.{default_writer, row_text}
use Rattle.mesh_cli_print.specs.printed.Writers.{Holds}
use Rattle.mesh_cli_print.proofs.printed.records.put_row.Goals as goal

pub returns : goal.returns
returns g c =
    subst (λ fields. OnOk c.put_record.result ((text : List ℕ) → Holds g.W.Write.contents c.args.writer.now text
    → Holds g.W.Write.contents c.put_record.new.writer (text ++ row_text default_writer fields)))
    c.in_ok-fields.ensures c.put_record.ensures
