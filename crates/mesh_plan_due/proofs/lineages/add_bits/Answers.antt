use Rattle.mesh_plan_due.proofs.Bits.{all_joined}
use Rattle.mesh_plan_due.proofs.lineages.add_bits.Goals as goal

pub returns-clause-bits : goal.returns-clause-bits
returns-clause-bits c = all_joined c.args.row.now.items c.args.other.now c.loop-at.row.items c.loop-at.at c.loop-at-test.false c.requires c.loop-at.invariant.joined
