use Rattle.std.proofs.Common.{◌∙◌, sym}
use Rattle.mesh_time.specs.CronText.{item_has}
use Rattle.mesh_time.proofs.FieldLaws.{any_here, any_last, any_more}
use Rattle.mesh_time.proofs.fields.some_item_has.Goals as goal

pub returns-then-item_has : goal.returns-then-item_has
returns-then-item_has c =
    sym (sym c.loop-rest.invariant ∙ any_here (item_has c.args.low c.args.high c.args.value) c.loop-rest.rest.now _ _ c.cut.ensures.before c.cut.ensures.after (sym c.item_has.ensures ∙ c.if-item_has.true))

pub returns-then-item-rest : goal.returns-then-item-rest
returns-then-item-rest c =
    sym (sym c.loop-rest.invariant ∙ any_last (item_has c.args.low c.args.high c.args.value) c.loop-rest.rest.now _ c.cut.ensures.before c.if-item-rest.true (sym c.item_has.ensures ∙ c.if-item_has.false))

pub loop-rest-preserved : goal.loop-rest-preserved
loop-rest-preserved c =
    sym (any_more (item_has c.args.low c.args.high c.args.value) c.loop-rest.rest.now _ _ c.cut.ensures.before c.cut.ensures.after c.if-item-rest.false (sym c.item_has.ensures ∙ c.if-item_has.false)) ∙ c.loop-rest.invariant
