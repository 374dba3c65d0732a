use Rattle.std.proofs.Common.{◌≡◌, ◌++◌, map, drop}
use Rattle.mesh_exec_works.specs.Works.{part_of, parts_from}
use Rattle.mesh_exec_works.proofs.works.works_of.Given as goal

-- what has come and what is left are all of them
abbrev pub invariant-loop-i : goal.invariant-loop-i
invariant-loop-i l = map part_of l.works ++ parts_from l.i (drop l.i l.nodes) (drop l.i l.entries) l.rest ≡ parts_from 0 l.nodes l.entries l.dues
