use Rattle.std.proofs.Common.{◌≡◌, drop}
use Rattle.mesh_list.specs.Keyed.{ascends}
use Rattle.mesh_law_query.specs.Reads.{reading_cmp, reading_itself}
use Rattle.mesh_lineage.proofs.once.ascend.Given as goal

abbrev pub invariant-loop-i : goal.invariant-loop-i
invariant-loop-i l = ascends reading_cmp reading_itself (drop l.i l.all) ≡ ascends reading_cmp reading_itself l.all
