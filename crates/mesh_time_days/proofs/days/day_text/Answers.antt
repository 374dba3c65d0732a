use Rattle.std.proofs.Common.{◌≡◌, sym, subst, negsuc, ◌≤ℤ◌, arith}
use Rattle.std.proofs.lemmas.Int.{ints}
use Rattle.jiff_core.specs.Date.{epoch_day}
use Rattle.mesh_time_days.specs.Moments.{day_number, IsDayText}
use Rattle.mesh_time_days.proofs.TextLaws.{from_year_one}
use Rattle.mesh_time_days.proofs.days.day_text.Goals as goal

pub date_text-requires : goal.date_text-requires
unfolding day_number
date_text-requires c =
    let is = c.date_of.ensures in
    let day : epoch_day c.date_of.result ≡ c.args.day = omega (arith, ints) in
    from_year_one c.date_of.result (subst (λ z. negsuc 719_161 ≤ℤ z) (sym day) c.requires.0)

pub returns : goal.returns
unfolding IsDayText day_number
returns c =
    let is = c.date_of.ensures in
    let day : epoch_day c.date_of.result ≡ c.args.day = omega (arith, ints) in
    (c.date_of.result, from_year_one c.date_of.result (subst (λ z. negsuc 719_161 ≤ℤ z) (sym day) c.requires.0), day, c.date_text.ensures)
