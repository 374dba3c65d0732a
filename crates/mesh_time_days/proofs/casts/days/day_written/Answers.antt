use Rattle.std.proofs.Common.{FitsSigned, w32, rules}
use Rattle.std.proofs.lemmas.Int.{to_z-of_z}
use Rattle.mesh_time_days.proofs.casts.DayTexts.{text_is}
use Rattle.mesh_time_days.proofs.casts.days.day_written.Goals as goal

pub returns : goal.returns
returns c =
    let fits : FitsSigned w32 c.args.day = search rules in
    text_is c.args.day c.day_text.result c.requires (rw (← to_z-of_z w32 c.args.day fits) c.day_text.ensures)
