use Rattle.std.proofs.Common.{◌≤◌, length}
use Rattle.mesh_resolve_selects.proofs.groups.Broken.{FirstFrom}
use Rattle.mesh_resolve_selects.proofs.groups.rules.first_broken.Given as goal

abbrev pub invariant-loop-i : goal.invariant-loop-i
invariant-loop-i l = record { in_marks : l.i ≤ length l.marks; in_breaches : l.i ≤ length l.breaches; found : FirstFrom l.i l.marks l.breaches l.found }

abbrev pub decreases-loop-i : goal.decreases-loop-i
decreases-loop-i l = l.i
