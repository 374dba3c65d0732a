use Rattle.std.proofs.Common.{◌≡◌, ◌++◌, take, map}
use Rattle.std.specs.List.{flat_map}
use Rattle.mesh_base.specs.declared.queries.Item.{Item}
use Rattle.mesh_spec_query.specs.Named.{columns}
use Rattle.mesh_lineage.proofs.readings.add_items_columns.Given as goal

abbrev pub invariant-loop-i : goal.invariant-loop-i
invariant-loop-i l = l.places ≡ l.initial.places ++ flat_map columns (map (λ (i : Item). i.expr) (take l.i-index l.items))
