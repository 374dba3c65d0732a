use Rattle.std.proofs.Common.{◌≡◌, ◌++◌, drop, map}
use Rattle.mesh_spec_changes.specs.Changes.{points}
use Rattle.mesh_janitor.specs.promote.Promotion.{paired}
use Rattle.mesh_janitor.proofs.promote.changes.push_points.Given as goal

-- what has come and what is left are all of them
abbrev pub invariant-loop-i : goal.invariant-loop-i
invariant-loop-i l = l.changes ++ map (points l.env) (paired (drop l.i l.list) (drop l.i l.objects)) ≡ l.initial.changes ++ map (points l.env) (paired l.list l.objects)
