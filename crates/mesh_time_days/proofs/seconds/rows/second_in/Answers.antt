use Rattle.std.proofs.Common.{ap, ◌∙◌}
use Rattle.mesh_time_days.specs.seconds.Times.{time_of}
use Rattle.mesh_time_days.specs.seconds.Rows.{cell_at}
use Rattle.mesh_time_days.proofs.seconds.Before.{cell_at-is}
use Rattle.mesh_time_days.proofs.seconds.rows.second_in.Goals as goal

pub returns : goal.returns
returns c = c.second_by.ensures ∙ ap (λ p. time_of (cell_at p c.args.row.now)) c.column_at.ensures ∙ ap time_of (cell_at-is c.args.columns.now c.args.time.now c.args.row.now)
