use Rattle.std.proofs.Common.{◌≡◌, drop}
use Rattle.mesh_model_statement.specs.Values.{is_among}
use Rattle.mesh_model_statement.proofs.values.is_among.Given as goal

abbrev pub invariant-loop-column : goal.invariant-loop-column
invariant-loop-column l = is_among (drop l.column-index l.columns) l.name ≡ is_among l.columns l.name
