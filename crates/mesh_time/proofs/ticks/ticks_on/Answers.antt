use Rattle.std.proofs.Common.{◌∙◌, sym}
use Rattle.mesh_time.proofs.TickLaws.{tick_day, is_day_number}
use Rattle.mesh_time.proofs.ticks.ticks_on.Goals as goal

pub returns : goal.returns
returns c =
    let day = tick_day c.args.c.now _ _ (is_day_number _ c.requires) c.date_of.ensures in
    (λ h. day.0 (sym c.date_matches.ensures ∙ h), λ h. c.date_matches.ensures ∙ day.1 h)
