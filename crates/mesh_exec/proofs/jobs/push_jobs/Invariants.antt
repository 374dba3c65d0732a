use Rattle.std.proofs.Common.{◌≡◌, ◌++◌, take}
use Rattle.mesh_exec.specs.Jobs.{jobs_of}
use Rattle.mesh_exec.proofs.jobs.push_jobs.Given as goal

abbrev pub invariant-loop-run : goal.invariant-loop-run
invariant-loop-run l = l.jobs ≡ l.initial.jobs ++ jobs_of l.pool l.node.own.kind l.node.own.defn (take l.run-index l.runs)
