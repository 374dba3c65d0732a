use Rattle.std.proofs.Common.{◌≡◌, map, take}
use Rattle.mesh_exec_works.specs.Cuts.{second_in}
use Rattle.mesh_exec_works.proofs.cuts.seconds_by.Given as goal

abbrev pub invariant-loop-row : goal.invariant-loop-row
invariant-loop-row l = l.made ≡ map (second_in l.columns l.time) (take l.row-index l.rows)
