use Rattle.std.proofs.Common.{◌∙◌}
use Rattle.std.specs.Prelude.{codes}
use Rattle.mesh_cli_print.specs.plans.PlanText.{with_difference, with_removed}
use Rattle.mesh_cli_print.proofs.plans.Differing.{removed_end, removed_goes}
use Rattle.mesh_cli_print.proofs.plans.differences.add_removed.Goals as goal

pub loop-pair-preserved : goal.loop-pair-preserved
loop-pair-preserved c =
    removed_goes c.loop-pair.made _ c.args.removed.now c.loop-pair.pair-index c.pair-item.result (with_removed c.args.made.now c.args.removed.now) c.loop-pair-test.true c.pair-item.is
    (c.in_ok-add.ensures ∙ (λ i. with_difference c.loop-pair.made (record { name = c.pair-item.result.first; word = codes "removed"; kind = c.as_slice.ensures i }))) c.loop-pair.invariant

pub returns : goal.returns
returns c = removed_end c.loop-pair.made c.args.removed.now c.loop-pair.pair-index (with_removed c.args.made.now c.args.removed.now) c.loop-pair-test.false c.loop-pair.invariant
