use Rattle.mesh_cli_print.specs.plans.PlanText.{unsteady_line}
use Rattle.mesh_cli_print.proofs.faults.Joined.{all_put, one_more}
use Rattle.mesh_cli_print.proofs.plans.text.put_unsteady.Goals as goal

pub loop-pair-preserved : goal.loop-pair-preserved
loop-pair-preserved c =
    one_more (unsteady_line) c.args.out.now.items c.args.pairs.now c.loop-pair.pair-index c.pair-item.result _ _ c.loop-pair-test.true c.pair-item.is c.loop-pair.invariant c.in_ok-put_unsteady_model.ensures

pub returns : goal.returns
returns c = all_put (unsteady_line) c.args.out.now.items c.args.pairs.now c.loop-pair.pair-index c.loop-pair.out.items c.loop-pair-test.false c.loop-pair.invariant
