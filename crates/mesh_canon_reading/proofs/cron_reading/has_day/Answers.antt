use Rattle.std.proofs.Common.{◌∙◌, ◌+◌, ◌&&◌, sym}
use Rattle.std.specs.Prelude.{nat_lt}
use Rattle.mesh_base_values.specs.Crons.{has, has_day, longest}
use Rattle.mesh_canon_reading.proofs.Below.{some_from, some_more, some_none}
use Rattle.mesh_canon_reading.proofs.cron_reading.has_day.Goals as goal

pub loop-day-init : goal.loop-day-init
loop-day-init c = some_none _

pub returns-then-is_day : goal.returns-then-is_day
unfolding has_day
returns-then-is_day c =
    sym (some_from (λ day. has c.args.days day && nat_lt day (longest c.args.month + 1)) 32 c.loop-day.day c.loop-day-test.true (sym c.is_day.ensures ∙ c.if-is_day.true))

pub loop-day-preserved : goal.loop-day-preserved
loop-day-preserved c =
    some_more (λ day. has c.args.days day && nat_lt day (longest c.args.month + 1)) c.loop-day.day c.loop-day.invariant (sym c.is_day.ensures ∙ c.if-is_day.false)
