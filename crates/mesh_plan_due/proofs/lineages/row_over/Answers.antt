use Rattle.std.proofs.Common.{◌||◌, nat_eq, ap, ◌∙◌}
use Rattle.std.proofs.lemmas.List.{take_all}
use Rattle.mesh_plan_due.specs.Lineages.{any_row}
use Rattle.mesh_plan_due.proofs.lineages.row_over.Goals as goal

pub returns-clause-bits : goal.returns-clause-bits
returns-clause-bits c p =
    c.set_bit.ensures.bits p
    ∙ ap (λ b. nat_eq p c.args.place || b) (c.loop-parent.invariant.bits p ∙ ap (any_row c.args.rows.now p) (take_all c.loop-parent.parent-index c.args.parents.now c.loop-parent-test.false))
