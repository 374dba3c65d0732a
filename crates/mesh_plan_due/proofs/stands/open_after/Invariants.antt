use Rattle.std.proofs.Common.{◌≡◌, drop}
use Rattle.mesh_time.specs.Edits.{open_after}
use Rattle.mesh_plan_due.proofs.stands.open_after.Given as goal

abbrev pub invariant-loop-i : goal.invariant-loop-i
invariant-loop-i l = open_after l.second (drop l.i l.spans) ≡ open_after l.second l.spans
