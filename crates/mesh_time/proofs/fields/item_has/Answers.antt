use Rattle.mesh_time.proofs.FieldLaws.{item_has_is}
use Rattle.mesh_time.proofs.fields.item_has.Goals as goal
use Rattle.std.proofs.Common.{◌∙◌, sym}

pub returns : goal.returns
returns c =
    c.steps_to.ensures ∙ item_has_is c.args.low c.args.high c.args.value _ _ _ c.args.item.now (sym c.is_item.ensures ∙ c.if-not-is_item.false) c.item_first-first.ensures c.item_last-last.ensures c.item_step-step.ensures c.requires.value
