use Rattle.std.proofs.Common.{[]}
use Rattle.mesh_model_csv.specs.seeds.Seeds.{kinds_found}
use Rattle.mesh_model_csv.proofs.seeds.RowSteps.{kind_goes, kinds_end}
use Rattle.mesh_model_csv.proofs.seeds.seed.kinds_found.Goals as goal

pub loop-i-preserved : goal.loop-i-preserved
loop-i-preserved c =
    rw c.in_ok-push_made.ensures.2 (kind_goes [] c.args.names.now c.args.records.now c.loop-i.i c.loop-i.kinds c.in_ok-push_made.ensures.0 (kinds_found 0 c.args.names.now c.args.records.now)
    c.loop-i-test.true (rw c.in_ok-push_made.ensures.1 at c.kind_found.ensures) c.loop-i.invariant)

pub returns : goal.returns
returns c = kinds_end c.args.names.now c.args.records.now c.loop-i.i c.loop-i.kinds (kinds_found 0 c.args.names.now c.args.records.now) c.loop-i-test.false c.loop-i.invariant
