use Rattle.std.proofs.Common.{◌≡◌, take}
use Rattle.mesh_exec.specs.Runs.{last_end}
use Rattle.mesh_exec.proofs.runs.last_end.Given as goal

abbrev pub invariant-loop-due : goal.invariant-loop-due
invariant-loop-due l = l.last ≡ last_end l.end (take l.due-index l.dues)
