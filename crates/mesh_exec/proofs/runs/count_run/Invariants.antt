use Rattle.std.proofs.Common.{◌≡◌, ◌++◌, ◌-◌, take, drop}
use Rattle.mesh_exec.specs.Runs.{onward, run_ahead}
use Rattle.mesh_exec.proofs.runs.count_run.Given as goal

-- the parts so far lead
abbrev pub invariant-loop-i : goal.invariant-loop-i
invariant-loop-i l = take l.i l.dues ++ onward (256 - l.i) l.joins l.last (drop l.i l.dues) ≡ run_ahead l.joins l.dues
