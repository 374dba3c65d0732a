use Rattle.std.proofs.Common.{◌≡◌, map, take}
use Rattle.mesh_base_values.specs.declared.values.Column.{Column}
use Rattle.mesh_base.specs.Outputs.{item_columns}
use Rattle.mesh_trace.proofs.hits.names_of_items.Given as goal

abbrev pub invariant-loop-i : goal.invariant-loop-i
invariant-loop-i l = l.made ≡ map (λ (c : Column). c.name) (item_columns (take l.i-index l.items))
