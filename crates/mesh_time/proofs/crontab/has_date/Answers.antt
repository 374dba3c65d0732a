use Rattle.std.proofs.Common.{◌∙◌, ◌&&◌, sym}
use Rattle.mesh_base_values.specs.Crons.{has, has_date, has_day}
use Rattle.mesh_time.proofs.SetLaws.{some_from, some_more, some_none}
use Rattle.mesh_time.proofs.crontab.has_date.Goals as goal

pub loop-month-init : goal.loop-month-init
loop-month-init c = some_none _

pub returns-then-is_date : goal.returns-then-is_date
unfolding has_date
returns-then-is_date c =
    sym (some_from (λ month. has c.args.months month && has_day c.args.days month) 13 c.loop-month.month c.loop-month-test.true (sym c.is_date.ensures ∙ c.if-is_date.true))

pub loop-month-preserved : goal.loop-month-preserved
loop-month-preserved c =
    some_more (λ month. has c.args.months month && has_day c.args.days month) c.loop-month.month c.loop-month.invariant (sym c.is_date.ensures ∙ c.if-is_date.false)
