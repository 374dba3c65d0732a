use Rattle.std.proofs.Common.{FitsSigned, w64}
use Rattle.std.proofs.lemmas.Int.{to_z-of_z}
use Rattle.mesh_time.proofs.TickLaws.{tick_at}
use Rattle.mesh_time.proofs.ticks.ticks_at.Goals as goal

pub returns : goal.returns
returns c =
    let fits : FitsSigned w64 c.args.t = c.ranges.t in
    let value = simp to_z-of_z at c.day_and_second-day.ensures.value in
    let at = tick_at c.args.c.now c.args.t _ _ value c.day_and_second-day.ensures.second in
    let is = c.ticks_on_at.ensures in
    (λ h. at.1 (is.0 h), λ h. is.1 (at.0 h))
