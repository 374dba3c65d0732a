use Rattle.mesh_canon_reading.proofs.Crons.{below_power}
use Rattle.mesh_canon_reading.proofs.cron_reading.+values.Goals as goal

pub with-with_value-requires-clause-above : goal.with-with_value-requires-clause-above
with-with_value-requires-clause-above t c = below_power c.args.set c.args.low c.in_ok-value.value c.requires.set c.if-value-low.false
