use Rattle.std.proofs.Common.{◌≡◌, drop}
use Rattle.mesh_janitor.specs.janitor.Walk.{objects_after}
use Rattle.mesh_janitor.proofs.janitor.tables.add_used.Given as goal

abbrev pub invariant-loop-s : goal.invariant-loop-s
invariant-loop-s l = objects_after l.t l.wanted (drop l.s-index l.all) l.names ≡ objects_after l.t l.wanted l.all l.initial.names
