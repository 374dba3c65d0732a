use Rattle.std.proofs.Common.{sym, subst, rules, FitsSigned, w64, ℤ}
use Rattle.std.proofs.lemmas.Int.{to_z-of_z}
use Rattle.mesh_time_days.specs.Moments.{moment}
use Rattle.mesh_time.specs.Ticks.{IsFloor}
use Rattle.mesh_time.proofs.TickLaws.{from_epoch}
use Rattle.mesh_time.proofs.ticks.floor.Goals as goal

pub last_tick-tick_day-requires-clause-day : goal.last_tick-tick_day-requires-clause-day
last_tick-tick_day-requires-clause-day c =
    let fits : FitsSigned w64 c.args.t = c.ranges.t in
    let value = simp to_z-of_z at c.day_and_second-day.ensures.value in
    (from_epoch _ _ _ value c.day_and_second-day.ensures.second c.requires.0, c.day_and_second-day.ensures.day)

pub returns : goal.returns
returns c =
    let fits : FitsSigned w64 c.args.t = c.ranges.t in
    let value = simp to_z-of_z at c.day_and_second-day.ensures.value in
    let P : ℤ → ℤ → Type 0 = λ t f. IsFloor c.args.c.now t f in
    let whole : FitsSigned w64 c.moment.result = search rules in
    simp to_z-of_z (subst (λ t. P t c.moment.result) (sym value) (subst (λ f. P (moment c.day_and_second-day.result.0 c.day_and_second-day.result.1) f) (sym c.moment.ensures) c.last_tick-tick_day.ensures.floor))
