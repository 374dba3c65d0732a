use Rattle.std.proofs.Common.{◌≡◌, ◌<◌, ◌^◌}
use Rattle.mesh_time.specs.CronText.{field_has, set_of}
use Rattle.mesh_time.proofs.fields.values.Given as goal

abbrev pub invariant-loop-value : goal.invariant-loop-value
invariant-loop-value l = (l.set ≡ set_of (field_has l.low l.high l.field) l.value) × (l.set < 2 ^ l.value)
