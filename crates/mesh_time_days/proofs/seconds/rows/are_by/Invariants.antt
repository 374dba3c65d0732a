use Rattle.std.proofs.Common.{◌≡◌, drop}
use Rattle.mesh_time_days.specs.seconds.Rows.{are_by}
use Rattle.mesh_time_days.proofs.seconds.rows.are_by.Given as goal

-- what is left decides
abbrev pub invariant-loop-row : goal.invariant-loop-row
invariant-loop-row l = are_by l.place l.end (drop l.row-index l.rows) ≡ are_by l.place l.end l.rows
