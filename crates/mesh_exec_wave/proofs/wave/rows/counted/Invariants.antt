use Rattle.std.proofs.Common.{◌≡◌}
use Rattle.std.specs.List.{filter}
use Rattle.mesh_exec_wave.specs.wave.Waves.{counts}
use Rattle.mesh_exec_wave.proofs.wave.rows.counted.Given as goal

abbrev pub invariant-loop-row : goal.invariant-loop-row
invariant-loop-row l = l.made ≡ filter (counts l.time l.columns l.u) l.yielded
