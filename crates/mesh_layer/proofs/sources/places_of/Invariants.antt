use Rattle.std.proofs.Common.{◌≡◌, take, map}
use Rattle.mesh_base_values.specs.declared.values.Column.{Column}
use Rattle.mesh_layer.specs.Places.{places_of}
use Rattle.mesh_layer.proofs.sources.places_of.Given as goal

abbrev pub invariant-loop-column : goal.invariant-loop-column
invariant-loop-column l = l.places.items ≡ places_of l.columns (map (λ (d : Column). d.name) (take l.column-index l.declared))
