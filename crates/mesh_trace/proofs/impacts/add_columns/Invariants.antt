use Rattle.std.proofs.Common.{◌≡◌, ◌++◌, map, take}
use Rattle.mesh_trace.specs.Impacts.{column_trace}
use Rattle.mesh_trace.proofs.impacts.add_columns.Given as goal

abbrev pub invariant-loop-column : goal.invariant-loop-column
invariant-loop-column l = l.found ≡ l.initial.found ++ map (column_trace l.name) (take l.column-index l.columns)
