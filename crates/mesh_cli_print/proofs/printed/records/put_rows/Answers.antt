use Rattle.std.proofs.Common.{◌++◌, subst, map}
use Rattle.std.specs.List.{flat_map}
use Rattle.std.proofs.lemmas.List.{take_all}
use Rattle.csv.specs.Writing.{default_writer, row_text}
use Rattle.mesh_cli_print.specs.printed.Records.{field}
use Rattle.mesh_cli_print.specs.printed.Writers.{Holds}
use Rattle.mesh_cli_print.proofs.printed.Growing.{grown}
use Rattle.mesh_cli_print.proofs.printed.records.put_rows.Goals as goal

pub loop-row-preserved : goal.loop-row-preserved
loop-row-preserved g c text h =
    subst (Holds g.W.Write.contents c.put_row.new.writer)
    (grown (row_text default_writer) (map field) c.args.rows.now c.loop-row.row-index _ c.row-item.result text c.loop-row-test.true c.row-item.is)
    (c.in_ok-put_row.ensures _ (c.loop-row.invariant text h))

pub returns : goal.returns
returns g c text h =
    subst (λ rows. Holds g.W.Write.contents c.loop-row.writer (text ++ flat_map (row_text default_writer) (map (map field) rows)))
    (take_all c.loop-row.row-index c.args.rows.now c.loop-row-test.false) (c.loop-row.invariant text h)
