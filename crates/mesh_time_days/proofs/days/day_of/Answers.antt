use Rattle.std.proofs.Common.{sym, rules, FitsSigned, w32}
use Rattle.std.proofs.lemmas.Int.{to_z-of_z}
use Rattle.mesh_time_days.specs.Moments.{IsDayText}
use Rattle.mesh_time_days.proofs.days.day_of.Goals as goal

pub returns-in-None : goal.returns-in-None
unfolding IsDayText
returns-in-None c = λ day (d, year, is, e). c.in-None.ensures d year e

pub returns-in-Some : goal.returns-in-Some
unfolding IsDayText
returns-in-Some c =
    let fits : FitsSigned w32 c.to_unix_epoch_day.result = search rules in
    (c.in-Some.date, c.in-Some.ensures.0, simp to_z-of_z (sym c.to_unix_epoch_day.ensures.value), c.in-Some.ensures.1)
