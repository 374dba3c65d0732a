use Rattle.std.proofs.Common.{◌≡◌, take}
use Rattle.mesh_resolve_types.specs.Forms.{all_marks}
use Rattle.mesh_resolve_types.proofs.lists.all_marks.Given as goal

abbrev pub invariant-loop-t : goal.invariant-loop-t
invariant-loop-t l = l.made ≡ all_marks (take l.t-index l.t-items)
