use Rattle.std.proofs.Common.{◌∙◌, ap, map}
use Rattle.mesh_cli_print.specs.printed.Records.{field}
use Rattle.mesh_cli_print.proofs.printed.Growing.{all_made, one_made}
use Rattle.mesh_cli_print.proofs.printed.records.row_record.Goals as goal

pub loop-cell-preserved : goal.loop-cell-preserved
loop-cell-preserved c =
    let put = c.in_ok-push_cell.ensures in
    (one_made field c.as_slice-cell-items.result.now c.loop-cell.cell-index c.cell-item.result _ _ c.loop-cell-test.true c.cell-item.is c.loop-cell.invariant.0 put.0, put.1)

pub returns : goal.returns
returns c = all_made field c.as_slice-cell-items.result.now c.loop-cell.cell-index _ c.loop-cell-test.false c.loop-cell.invariant.0 ∙ ap (map field) c.as_slice-cell-items.ensures
