use Rattle.mesh_time_days.proofs.casts.CalendarDays.{named_of}
use Rattle.mesh_time_days.proofs.casts.days.day_named.Goals as goal

pub returns : goal.returns
returns c = named_of c.day_of.result c.args.text.now c.day_of.ensures
