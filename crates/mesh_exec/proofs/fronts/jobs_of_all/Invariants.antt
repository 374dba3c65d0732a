use Rattle.std.proofs.Common.{◌≡◌, ◌++◌, drop}
use Rattle.mesh_exec.specs.Fronts.{cut_jobs}
use Rattle.mesh_exec.proofs.fronts.jobs_of_all.Given as goal

-- what has come and what is left are all of them
abbrev pub invariant-loop-i : goal.invariant-loop-i
invariant-loop-i l = l.jobs ++ cut_jobs (drop l.i l.cuts) (drop l.i l.numbers) ≡ cut_jobs l.cuts l.numbers
