use Rattle.std.proofs.Common.{arith, ap}
use Rattle.mesh_exec_wave.specs.declared.claims.claimed.Claimed.{Claimed}
use Rattle.mesh_exec_wave.proofs.wave.Drawing.{both_done}
use Rattle.mesh_exec_wave.proofs.wave.workers.+work_all.Goals as goal

pub returns-clause-done : goal.returns-clause-done
returns-clause-done g t c = both_done _ _ _ _ _ _ _ _ _ _ c.join-theirs.ensures.second.3 c.join-theirs.ensures.first.3 (omega arith) (ap (λ (v : Claimed). v.drawn) c.both.ensures.numbers) c.both.ensures.made
