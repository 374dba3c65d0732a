use Rattle.std.proofs.Common.{◌≡◌, take}
use Rattle.std.specs.List.{filter}
use Rattle.mesh_time_days.specs.seconds.Times.{lies_in}
use Rattle.mesh_exec_wave.proofs.wave.rows.rows_within.Given as goal

abbrev pub invariant-loop-row : goal.invariant-loop-row
invariant-loop-row l = l.made ≡ filter (lies_in l.columns l.time l.u) (take l.row-index l.rows)
