use Rattle.std.proofs.Common.{◌≡◌, None, replicate}
use Rattle.mesh_exec_wave.proofs.wave.parts.no_rows.Given as goal

abbrev pub invariant-loop : goal.invariant-loop
invariant-loop l = l.slots.items ≡ replicate l.counter None
