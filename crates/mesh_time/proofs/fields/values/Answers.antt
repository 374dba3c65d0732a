use Rattle.std.proofs.Common.{◌∙◌, ◌+◌, ◌^◌, ap, cond, sym, arith}
use Rattle.mesh_time.specs.CronText.{field_has}
use Rattle.mesh_time.proofs.SetLaws.{set_none, set_step}
use Rattle.mesh_time.proofs.fields.values.Goals as goal

pub loop-value-init : goal.loop-value-init
loop-value-init c = (sym (set_none _), omega arith)

pub loop-value-preserved : goal.loop-value-preserved
loop-value-preserved c =
    set_step (field_has c.args.low c.args.high c.args.field.now) c.loop-value.value c.loop-value.set _ c.loop-value.invariant.0 c.loop-value.invariant.1
    (ap (λ k. c.loop-value.set + k) (c.bit_where-set.ensures.value ∙ ap (λ t. cond t (2 ^ c.loop-value.value) 0) c.field_has.ensures))
