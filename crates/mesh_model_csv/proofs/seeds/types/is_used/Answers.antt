use Rattle.std.proofs.Common.{sym, ap, ◌∙◌}
use Rattle.std.proofs.lemmas.List.{take_all}
use Rattle.mesh_model_csv.specs.seeds.Cells.{Record, field, is_filled, is_used}
use Rattle.mesh_model_csv.proofs.seeds.OneMore.{found_before, found_here}
use Rattle.mesh_model_csv.proofs.seeds.types.is_used.Goals.{then-used, else-used}
use Rattle.mesh_model_csv.proofs.seeds.types.is_used.Goals as goal

pub loop-record-preserved : goal.loop-record-preserved
loop-record-preserved c =
    let test = λ (r : Record). is_filled (field c.args.column r) in
    let records = c.args.records.now in
    elim c.if-used.branch [
      | then-used w ↦ w.used-is ∙ found_before test records c.loop-record.record-index _ w.if-used.true (sym c.loop-record.invariant ∙ w.if-used.true)
      | else-used w ↦
          w.used-is ∙ found_here test records c.loop-record.record-index c.record-item.result w.is_filled-used.result c.loop-record-test.true c.record-item.is (sym c.loop-record.invariant ∙ w.if-used.false)
          (w.is_filled-used.ensures ∙ ap is_filled w.field.ensures)
    ]

pub returns : goal.returns
returns c = c.loop-record.invariant ∙ ap (is_used c.args.column) (take_all c.loop-record.record-index c.args.records.now c.loop-record-test.false)
