use Rattle.std.proofs.Common.{subst}
use Rattle.std.proofs.lemmas.List.{take_all}
use Rattle.mesh_eval.specs.Placed.{AreItems}
use Rattle.mesh_eval.proofs.placing.bind_items.Goals as goal

pub returns : goal.returns
returns c = subst (λ items. AreItems c.args.u c.args.columns.now c.args.keys.now items c.loop-item.made) (take_all c.loop-item.item-index c.args.items.now c.loop-item-test.false) c.loop-item.invariant
