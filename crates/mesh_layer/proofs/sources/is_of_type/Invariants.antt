use Rattle.std.proofs.Common.{◌≡◌, drop}
use Rattle.std.specs.List.{find}
use Rattle.mesh_base_values.specs.Picked.{same_text}
use Rattle.mesh_base_values.specs.declared.values.Column.{Column}
use Rattle.mesh_layer.proofs.sources.is_of_type.Given as goal

abbrev pub invariant-loop-column : goal.invariant-loop-column
invariant-loop-column l = find (λ (c : Column). same_text c.name l.name) (drop l.column-index l.columns) ≡ find (λ (c : Column). same_text c.name l.name) l.columns
