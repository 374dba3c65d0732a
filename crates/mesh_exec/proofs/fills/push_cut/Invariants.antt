use Rattle.std.proofs.Common.{◌≡◌, ◌++◌, take}
use Rattle.mesh_exec_works.specs.Cuts.{cut_fills}
use Rattle.mesh_exec_works.specs.Plain.{model_of}
use Rattle.mesh_exec.proofs.fills.push_cut.Given as goal

abbrev pub invariant-loop-due : goal.invariant-loop-due
invariant-loop-due l = l.changes ≡ l.initial.changes ++ cut_fills (model_of l.node l.entry) (take l.due-index l.dues) l.rows l.seconds
