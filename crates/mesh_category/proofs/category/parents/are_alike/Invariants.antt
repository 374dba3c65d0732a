use Rattle.std.proofs.Common.{◌≡◌, ◌&&◌, drop}
use Rattle.mesh_category.specs.category.Alike.{are_alike}
use Rattle.mesh_category.proofs.category.parents.are_alike.Given as goal

abbrev pub invariant-loop-i : goal.invariant-loop-i
invariant-loop-i l = (l.each && are_alike l.olds l.news l.adds (drop l.i l.ps) (drop l.i l.qs)) ≡ are_alike l.olds l.news l.adds l.ps l.qs
