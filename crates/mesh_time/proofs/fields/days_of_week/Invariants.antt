use Rattle.std.proofs.Common.{◌≡◌, ◌<◌, ◌^◌}
use Rattle.mesh_time.specs.CronText.{set_of, week_has}
use Rattle.mesh_time.proofs.fields.days_of_week.Given as goal

abbrev pub invariant-loop-value : goal.invariant-loop-value
invariant-loop-value l = (l.set ≡ set_of (week_has l.field) l.value) × (l.set < 2 ^ l.value)
