use Rattle.std.proofs.Common.{◌≡◌, drop}
use Rattle.mesh_base.specs.Outputs.{item_columns}
use Rattle.mesh_base.specs.rules.Seen.{are_distinct}
use Rattle.mesh_house_book.proofs.outputs.items_differ.Given as goal

abbrev pub invariant-loop-i : goal.invariant-loop-i
invariant-loop-i l = are_distinct (item_columns (drop l.i l.items)) ≡ are_distinct (item_columns l.items)
