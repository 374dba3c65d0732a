use Rattle.std.proofs.Common.{◌≡◌, take}
use Rattle.mesh_base.specs.Outputs.{item_columns}
use Rattle.mesh_base.specs.rules.Seen.{has_column}
use Rattle.mesh_house_book.proofs.outputs.items_have.Given as goal

abbrev pub invariant-loop-item : goal.invariant-loop-item
invariant-loop-item l = l.found ≡ has_column (item_columns (take l.item-index l.items)) l.name
