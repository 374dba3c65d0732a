use Rattle.std.proofs.Common.{◌≡◌, ◌++◌, take}
use Rattle.mesh_exec_works.specs.Plain.{model_of}
use Rattle.mesh_exec.specs.Fills.{each_with}
use Rattle.mesh_exec.proofs.fills.push_each.Given as goal

abbrev pub invariant-loop-due : goal.invariant-loop-due
invariant-loop-due l = l.changes ≡ l.initial.changes ++ each_with (model_of l.node l.entry) (take l.due-index l.dues) l.rows
