use Rattle.std.proofs.Common.{◌≡◌, ◌++◌, take, drop}
use Rattle.mesh_exec_works.specs.Dues.{leading, behind}
use Rattle.mesh_exec_works.proofs.works.count_leading.Given as goal

-- the dues so far lead
abbrev pub invariant-loop-i : goal.invariant-loop-i
invariant-loop-i l = (leading l.place l.dues ≡ take l.i l.dues ++ leading l.place (drop l.i l.dues)) × (behind l.place l.dues ≡ behind l.place (drop l.i l.dues))
