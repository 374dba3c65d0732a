use Rattle.std.proofs.Common.{◌||◌, ◌∷◌, [], ap, sym, ◌∙◌}
use Rattle.mesh_spec_changes.specs.due.Parts.{is_among, unit_of}
use Rattle.mesh_plan_due.proofs.Keys.{among_more}
use Rattle.mesh_plan_due.proofs.gone.units_among.Goals as goal

pub loop-part-preserved : goal.loop-part-preserved
loop-part-preserved c object u =
    c.in_ok-add_unit.ensures object u
    ∙ ap (λ b. b || is_among (c.part-item.result ∷ []) (unit_of object u)) (c.loop-part.invariant object u)
    ∙ sym (among_more c.args.parts.now c.loop-part.part-index c.part-item.result (unit_of object u) c.loop-part-test.true c.part-item.is)
