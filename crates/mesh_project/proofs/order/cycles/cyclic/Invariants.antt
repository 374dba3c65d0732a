use Rattle.mesh_project.specs.order.Seen.{AreNamed}
use Rattle.mesh_project.proofs.order.cycles.cyclic.Given as goal

abbrev pub invariant-loop-at : goal.invariant-loop-at
invariant-loop-at l = AreNamed l.models l.links l.rest l.at-index l.names
