use Rattle.std.proofs.Common.{◌≡◌, ◌++◌, drop}
use Rattle.mesh_exec_works.specs.Plain.{plain_models, puts_of}
use Rattle.mesh_exec_works.proofs.changes.push_puts.Given as goal

-- what has come and what is left are all of them
abbrev pub invariant-loop-i : goal.invariant-loop-i
invariant-loop-i l = l.changes ++ puts_of l.t (plain_models l.nodes l.entries) (plain_models (drop l.i l.nodes) (drop l.i l.entries)) ≡ l.initial.changes ++ puts_of l.t (plain_models l.nodes l.entries) (plain_models l.nodes l.entries)
