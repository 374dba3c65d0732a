use Rattle.std.proofs.Common.{arith}
use Rattle.mesh_time_days.proofs.TextLaws.{no_time, minute_time, second_time}
use Rattle.mesh_time_days.proofs.moments.digits_of.Goals as goal

pub returns-then-text-lt6 : goal.returns-then-text-lt6
returns-then-text-lt6 c = record { value = λ second h is. no_time second c.args.text.now (omega arith) is }

pub returns-then-text-lt9 : goal.returns-then-text-lt9
returns-then-text-lt9 c = record { value = λ second h is. minute_time second c.args.text.now _ _ (omega arith) (omega arith) h c.two_at.ensures.value c.two_at-then-text-lt9.ensures.value is }

pub returns-else-text-lt9 : goal.returns-else-text-lt9
returns-else-text-lt9 c = record { value = λ second h is. second_time second c.args.text.now _ _ _ (omega arith) h c.two_at-else-text-lt9.ensures.value c.two_at-else-text-lt9-2.ensures.value c.two_at-else-text-lt9-3.ensures.value is }
