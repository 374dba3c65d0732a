use Rattle.std.proofs.Common.{◌≡◌, take}
use Rattle.mesh_model_csv.specs.external.Externals.{has_column}
use Rattle.mesh_model_csv.proofs.external.columns.has_column.Given as goal

abbrev pub invariant-loop-column : goal.invariant-loop-column
invariant-loop-column l = l.found ≡ has_column (take l.column-index l.columns) l.name
