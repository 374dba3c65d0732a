use Rattle.std.proofs.Common.{◌/◌, ◌∙◌}
use Rattle.mesh_plan_due.proofs.Bits.{any_default, bit_set}
use Rattle.mesh_plan_due.proofs.lineages.set_bit.Goals as goal

pub returns-clause-bits : goal.returns-clause-bits
returns-clause-bits c =
    bit_set c.args.row.now.items c.args.place c.index_mut.result.now c.requires (c.index_mut.ensures.value ∙ any_default c.args.row.now.items (c.args.place / 64) c.index_mut.result.now 0 c.requires)
