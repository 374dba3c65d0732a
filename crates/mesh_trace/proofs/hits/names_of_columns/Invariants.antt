use Rattle.std.proofs.Common.{◌≡◌, map, take}
use Rattle.mesh_base_values.specs.declared.values.Column.{Column}
use Rattle.mesh_trace.proofs.hits.names_of_columns.Given as goal

abbrev pub invariant-loop-c : goal.invariant-loop-c
invariant-loop-c l = l.made ≡ map (λ (c : Column). c.name) (take l.c-index l.columns)
