use Rattle.std.proofs.Common.{◌≡◌, take}
use Rattle.std.specs.List.{flat_map}
use Rattle.mesh_resolve_types.specs.Forms.{arm_marks}
use Rattle.mesh_resolve_types.proofs.cases.marks_of.Given as goal

abbrev pub invariant-loop-a : goal.invariant-loop-a
invariant-loop-a l = l.made ≡ flat_map arm_marks (take l.a-index l.a-items)
