use Rattle.std.proofs.Common.{length}
use Rattle.mesh_exec.proofs.Running.{SoFar}
use Rattle.mesh_exec.proofs.runs.cut_in_runs.Given as goal

-- the runs so far, and what is left
abbrev pub invariant-loop-rest : goal.invariant-loop-rest
invariant-loop-rest l = SoFar l.joins l.dues l.runs l.rest

abbrev pub decreases-loop-rest : goal.decreases-loop-rest
decreases-loop-rest l = length l.rest
