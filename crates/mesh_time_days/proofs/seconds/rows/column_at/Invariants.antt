use Rattle.std.proofs.Common.{◌≡◌, ◌+◌, drop}
use Rattle.std.specs.Option.{option_map}
use Rattle.mesh_time_days.specs.seconds.Rows.{column_at}
use Rattle.mesh_time_days.proofs.seconds.rows.column_at.Given as goal

-- where the column stands in what is left
abbrev pub invariant-loop-i : goal.invariant-loop-i
invariant-loop-i l = option_map (λ n. l.i + n) (column_at (drop l.i l.columns) l.time) ≡ column_at l.columns l.time
