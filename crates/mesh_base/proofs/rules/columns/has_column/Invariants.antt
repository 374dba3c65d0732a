use Rattle.std.proofs.Common.{◌≡◌, take}
use Rattle.mesh_base.specs.rules.Seen.{has_column}
use Rattle.mesh_base.proofs.rules.columns.has_column.Given as goal

abbrev pub invariant-loop-column : goal.invariant-loop-column
invariant-loop-column l = l.found ≡ has_column (take l.column-index l.columns) l.name
