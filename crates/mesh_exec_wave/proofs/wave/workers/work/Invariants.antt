use Rattle.std.proofs.Common.{◌≡◌, []}
use Rattle.mesh_exec_wave.specs.wave.Workers.{IsSoFar}
use Rattle.mesh_exec_wave.proofs.wave.workers.work.Given as goal

-- every number so far names a unit
abbrev pub invariant-loop : goal.invariant-loop
invariant-loop g l =
    (l.seat.table_id ≡ l.claims.shared.table_id)
    × (l.seat.me.0.parts ≡ l.initial.seat.me.0.parts)
    × (l.seat.me.1 ≡ [])
    × IsSoFar (g.U.Units.wanted l.units) l.counter l.seat.me.0.drawn l.made
