use Rattle.std.proofs.Common.{arith}
use Rattle.mesh_cli.proofs.cli.Scripting.{goes_on, goes_to_the_end, stops_at}
use Rattle.mesh_cli.proofs.cli.batches.steps.Goals as goal

pub returns-then-status-ne0 : goal.returns-then-status-ne0
returns-then-status-ne0 g c = stops_at c.args.dir.now c.args.texts.now _ _ _ _ _ _ c.loop-text.text-index c.text-item.result _ (omega arith) c.text-item.is c.loop-text.invariant c.step-status.ensures (λ e. absurd (omega (arith, e, c.if-status-ne0.true)))

pub loop-text-preserved : goal.loop-text-preserved
loop-text-preserved g c = goes_on c.args.dir.now c.args.texts.now _ _ _ _ _ _ c.loop-text.text-index c.text-item.result _ (omega arith) c.text-item.is c.loop-text.invariant c.step-status.ensures (omega (arith, c.if-status-ne0.false))

pub returns : goal.returns
returns g c = goes_to_the_end c.args.dir.now c.args.texts.now _ _ _ _ c.loop-text.text-index (omega arith) c.loop-text.invariant
