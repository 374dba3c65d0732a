use Rattle.std.proofs.Common.{◌∙◌}
use Rattle.mesh_layer.proofs.Finding.{one_more}
use Rattle.mesh_exec_works.specs.Cuts.{second_in}
use Rattle.mesh_exec_works.proofs.cuts.seconds_by.Goals as goal

pub loop-row-preserved : goal.loop-row-preserved
loop-row-preserved c =
    c.in_ok-push.ensures.ok
    ∙ one_more (second_in c.args.columns.now c.args.time.now) c.args.rows.now c.loop-row.row-index c.row-item.result c.loop-row.made c.second_in.result c.loop-row-test.true c.row-item.is c.loop-row.invariant c.second_in.ensures
