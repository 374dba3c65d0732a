use Rattle.mesh_cli_print.specs.plans.PlanText.{difference_line}
use Rattle.mesh_cli_print.proofs.faults.Joined.{all_put, one_more}
use Rattle.mesh_cli_print.proofs.plans.text.put_each_difference.Goals as goal

pub loop-d-preserved : goal.loop-d-preserved
loop-d-preserved c =
    one_more (difference_line) c.args.out.now.items c.args.all.now c.loop-d.d-index c.d-item.result _ _ c.loop-d-test.true c.d-item.is c.loop-d.invariant c.in_ok-put_difference.ensures

pub returns : goal.returns
returns c = all_put (difference_line) c.args.out.now.items c.args.all.now c.loop-d.d-index c.loop-d.out.items c.loop-d-test.false c.loop-d.invariant
