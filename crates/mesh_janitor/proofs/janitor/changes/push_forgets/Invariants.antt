use Rattle.std.proofs.Common.{◌≡◌, ◌++◌, take, map}
use Rattle.mesh_janitor.specs.janitor.Walk.{forgets}
use Rattle.mesh_janitor.proofs.janitor.changes.push_forgets.Given as goal

abbrev pub invariant-loop-name : goal.invariant-loop-name
invariant-loop-name l = l.changes ≡ l.initial.changes ++ map forgets (take l.name-index l.names)
