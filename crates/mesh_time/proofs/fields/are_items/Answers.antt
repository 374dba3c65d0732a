use Rattle.std.proofs.Common.{◌∙◌, sym}
use Rattle.mesh_time.specs.CronText.{is_item}
use Rattle.mesh_time.proofs.FieldLaws.{all_fails, all_last, all_more}
use Rattle.mesh_time.proofs.fields.are_items.Goals as goal

pub returns-then-not-is_item : goal.returns-then-not-is_item
returns-then-not-is_item c =
    sym (sym c.loop-rest.invariant ∙ all_fails (is_item c.args.low c.args.high) c.loop-rest.rest.now _ _ c.cut.ensures.before c.cut.ensures.after (sym c.is_item.ensures ∙ c.if-not-is_item.true))

pub returns-then-item-rest : goal.returns-then-item-rest
returns-then-item-rest c =
    sym (sym c.loop-rest.invariant ∙ all_last (is_item c.args.low c.args.high) c.loop-rest.rest.now _ c.cut.ensures.before c.if-item-rest.true (sym c.is_item.ensures ∙ c.if-not-is_item.false))

pub loop-rest-preserved : goal.loop-rest-preserved
loop-rest-preserved c =
    sym (all_more (is_item c.args.low c.args.high) c.loop-rest.rest.now _ _ c.cut.ensures.before c.cut.ensures.after c.if-item-rest.false (sym c.is_item.ensures ∙ c.if-not-is_item.false)) ∙ c.loop-rest.invariant
