use Rattle.std.proofs.Common.{◌≡◌, ◌++◌, drop}
use Rattle.mesh_exec_works.specs.Plain.{model_of}
use Rattle.mesh_exec.specs.Fills.{zipped}
use Rattle.mesh_exec.proofs.fills.push_zipped.Given as goal

-- what has come and what is left are all of them
abbrev pub invariant-loop-i : goal.invariant-loop-i
invariant-loop-i l = l.changes ++ zipped (model_of l.node l.entry) (drop l.i l.runs) (drop l.i l.made) ≡ l.initial.changes ++ zipped (model_of l.node l.entry) l.runs l.made
