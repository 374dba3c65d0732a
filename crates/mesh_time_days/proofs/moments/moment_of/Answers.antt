use Rattle.std.proofs.Common.{rules, arith, FitsSigned, w32, pos, ◌≤ℤ◌}
use Rattle.std.proofs.lemmas.Int.{ints}
use Rattle.std.proofs.lemmas.List.{take_rest}
use Rattle.jiff_core.proofs.SignedLemmas.{signed_arith}
use Rattle.mesh_time_days.specs.Moments.{day_at, second_at}
use Rattle.mesh_time_days.proofs.TextLaws.{day_not_below, day_text_range, moment_made, moment_parts, one_day, second_bound}
use Rattle.mesh_time_days.proofs.moments.moment_of.Goals as goal

pub returns-then-text-lt10 : goal.returns-then-text-lt10
returns-then-text-lt10 c = λ t is. let p = moment_parts t c.args.text.now is in absurd (omega arith)

pub returns-in-None : goal.returns-in-None
returns-in-None c = λ t is. let p = moment_parts t c.args.text.now is in c.in-None.ensures (day_at t) p.1

pub returns-then-day-lt0 : goal.returns-then-day-lt0
returns-then-day-lt0 c = λ t is.
    let p = moment_parts t c.args.text.now is in
    let e = one_day (day_at t) c.in-Some.day _ p.1 c.in-Some.ensures in
    let low = day_not_below t p.3 in
    let fits : FitsSigned w32 c.in-Some.day = search rules in
    absurd (omega (arith, signed_arith))

pub returns-in-None-second_of : goal.returns-in-None-second_of
returns-in-None-second_of c = λ t is.
    let p = moment_parts t c.args.text.now is in
    (simp take_rest at c.in-None-second_of.ensures) (second_at t) (second_bound t) p.2

pub returns-else-day-lt0 : goal.returns-else-day-lt0
returns-else-day-lt0 c =
    let fits : FitsSigned w32 c.in-Some.day = search rules in
    let low : pos 0 ≤ℤ c.in-Some.day = omega (arith, signed_arith) in
    let high = day_text_range c.in-Some.day _ c.in-Some.ensures in
    let second = c.in-Some-second_of.ensures.0 in
    moment_made _ c.in-Some.day c.in-Some-second_of.second c.args.text.now (omega (arith, ints)) second low c.in-Some.ensures (simp take_rest at c.in-Some-second_of.ensures.1)
