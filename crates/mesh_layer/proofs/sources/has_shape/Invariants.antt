use Rattle.std.proofs.Common.{◌≡◌, take}
use Rattle.mesh_spec_model.specs.Sources.{has_shape}
use Rattle.mesh_layer.proofs.sources.has_shape.Given as goal

abbrev pub invariant-loop-column : goal.invariant-loop-column
invariant-loop-column l = l.each ≡ has_shape (take l.column-index l.declared) l.columns
