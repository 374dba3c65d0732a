use Rattle.std.proofs.Common.{◌≡◌, drop}
use Rattle.mesh_base.specs.rules.Seen.{are_distinct}
use Rattle.mesh_house_book.proofs.outputs.columns_differ.Given as goal

abbrev pub invariant-loop-i : goal.invariant-loop-i
invariant-loop-i l = are_distinct (drop l.i l.columns) ≡ are_distinct l.columns
