use Rattle.std.proofs.Common.{◌∙◌, ◌+◌, ◌^◌, ap, cond, sym, arith}
use Rattle.mesh_time.specs.CronText.{week_has}
use Rattle.mesh_time.proofs.SetLaws.{set_none, set_step}
use Rattle.mesh_time.proofs.fields.days_of_week.Goals as goal

pub loop-value-init : goal.loop-value-init
loop-value-init c = (sym (set_none _), omega arith)

pub loop-value-preserved : goal.loop-value-preserved
loop-value-preserved c =
    set_step (week_has c.args.field.now) c.loop-value.value c.loop-value.set _ c.loop-value.invariant.0 c.loop-value.invariant.1
    (ap (λ k. c.loop-value.set + k) (c.bit_where-set.ensures.value ∙ ap (λ t. cond t (2 ^ c.loop-value.value) 0) c.week_has.ensures))
