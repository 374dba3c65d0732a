use Rattle.std.proofs.Common.{◌≡◌, ◌++◌, take}
use Rattle.std.specs.List.{flat_map}
use Rattle.mesh_canon_text.specs.Text.{parent_text}
use Rattle.mesh_canon_text.proofs.definition_text.put_parents.Given as goal

abbrev pub invariant-loop-parent : goal.invariant-loop-parent
invariant-loop-parent l = l.out.items ≡ l.fn.out.items ++ flat_map parent_text (take l.parent-index l.parents)
