use Rattle.std.proofs.Common.{◌≡◌, ◌++◌, drop}
use Rattle.mesh_exec_works.specs.Cuts.{rows_in}
use Rattle.mesh_exec_works.proofs.cuts.rows_in.Given as goal

-- what has come and what is left are all of them
abbrev pub invariant-loop-i : goal.invariant-loop-i
invariant-loop-i l = l.made ++ rows_in l.u (drop l.i l.rows) (drop l.i l.seconds) ≡ rows_in l.u l.rows l.seconds
