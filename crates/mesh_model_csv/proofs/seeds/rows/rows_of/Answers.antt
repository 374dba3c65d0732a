use Rattle.mesh_model_csv.specs.seeds.Cells.{row_of}
use Rattle.mesh_model_csv.proofs.seeds.OneMore.{made_of_item}
use Rattle.mesh_model_csv.proofs.seeds.rows.rows_of.Goals as goal

pub loop-record-preserved : goal.loop-record-preserved
loop-record-preserved c =
    made_of_item (row_of c.args.kinds.now) c.args.records.now c.loop-record.record-index c.record-item.result _ _ c.row_of.result c.loop-record-test.true c.record-item.is c.loop-record.invariant c.row_of.ensures
    c.in_ok-push_made.ensures
