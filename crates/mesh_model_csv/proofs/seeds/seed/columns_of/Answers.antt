use Rattle.std.proofs.Common.{sym}
use Rattle.mesh_model_csv.specs.seeds.Seeds.{columns_of}
use Rattle.mesh_model_csv.proofs.seeds.RowSteps.{column_goes, columns_short, columns_end}
use Rattle.mesh_model_csv.proofs.seeds.seed.columns_of.Goals as goal

pub returns-in_default : goal.returns-in_default
returns-in_default c = columns_short c.args.names.now c.args.kinds.now c.loop-i.i c.loop-i.columns (columns_of c.args.names.now c.args.kinds.now) (sym c.in_default.ensures.value) c.loop-i.invariant

pub loop-i-preserved : goal.loop-i-preserved
loop-i-preserved c =
    rw c.in_ok-push_made.ensures.2 (column_goes c.args.names.now c.args.kinds.now c.loop-i.i c.index-names-i.result c.in-Some.kind.now c.loop-i.columns c.in_ok-push_made.ensures.0 (columns_of c.args.names.now c.args.kinds.now)
    c.loop-i-test.true c.index-names-i.is (sym c.in-Some.ensures.value) (rw c.in_ok-push_made.ensures.1 at c.column.ensures) c.loop-i.invariant)

pub returns : goal.returns
returns c = columns_end c.args.names.now c.args.kinds.now c.loop-i.i c.loop-i.columns (columns_of c.args.names.now c.args.kinds.now) c.loop-i-test.false c.loop-i.invariant
