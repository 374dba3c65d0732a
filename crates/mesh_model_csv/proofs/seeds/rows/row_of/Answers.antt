use Rattle.std.proofs.Common.{sym}
use Rattle.mesh_model_csv.specs.seeds.Cells.{row_of}
use Rattle.mesh_model_csv.proofs.seeds.RowSteps.{row_goes, row_short, row_ends}
use Rattle.mesh_model_csv.proofs.seeds.rows.row_of.Goals as goal

pub returns-in_default : goal.returns-in_default
returns-in_default c = row_short c.args.kinds.now c.args.fields.now c.loop-i.i c.loop-i.row (row_of c.args.kinds.now c.args.fields.now) (sym (rw c.in_default.is at c.get.ensures)) c.loop-i.invariant

pub loop-i-preserved : goal.loop-i-preserved
loop-i-preserved c =
    rw c.in_ok-push_made.ensures.2 (row_goes _ c.args.kinds.now c.args.fields.now c.loop-i.i c.in-Some.field.now c.loop-i.row c.in_ok-push_made.ensures.0 (row_of c.args.kinds.now c.args.fields.now)
    c.loop-i-test.true (sym c.in-Some.ensures) (rw c.in_ok-push_made.ensures.1 at c.cell_of.ensures) c.loop-i.invariant)

pub returns : goal.returns
returns c = row_ends c.args.kinds.now c.args.fields.now c.loop-i.i c.loop-i.row (row_of c.args.kinds.now c.args.fields.now) c.loop-i-test.false c.loop-i.invariant
