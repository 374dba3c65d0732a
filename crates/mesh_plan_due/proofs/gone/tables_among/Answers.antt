use Rattle.std.proofs.Common.{◌||◌, ◌∷◌, [], ap, sym, ◌∙◌}
use Rattle.mesh_base.specs.declared.forgets.Forget.TheVariants.{Marks}
use Rattle.mesh_spec_changes.specs.due.Parts.{is_among}
use Rattle.mesh_plan_due.proofs.Keys.{among_more}
use Rattle.mesh_plan_due.proofs.gone.tables_among.Goals as goal

pub loop-part-preserved : goal.loop-part-preserved
loop-part-preserved c object =
    c.in_ok-add_table.ensures object
    ∙ ap (λ b. b || is_among (c.part-item.result ∷ []) (Marks object)) (c.loop-part.invariant object)
    ∙ sym (among_more c.args.parts.now c.loop-part.part-index c.part-item.result (Marks object) c.loop-part-test.true c.part-item.is)
