use Rattle.std.proofs.Common.{◌≡◌, take}
use Rattle.mesh_base.specs.Outputs.{item_columns}
use Rattle.mesh_base_columns.proofs.outputs.item_columns.Given as goal

abbrev pub invariant-loop-item : goal.invariant-loop-item
invariant-loop-item l = l.columns ≡ item_columns (take l.item-index l.items)
