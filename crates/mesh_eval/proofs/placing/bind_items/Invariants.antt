use Rattle.std.proofs.Common.{take}
use Rattle.mesh_eval.specs.Placed.{AreItems}
use Rattle.mesh_eval.proofs.placing.bind_items.Given as goal

abbrev pub invariant-loop-item : goal.invariant-loop-item
invariant-loop-item l = AreItems l.u l.columns l.keys (take l.item-index l.items) l.made
