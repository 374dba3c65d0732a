-- A trace as a pair, which has the order of traces.
use Rattle.std.specs.Prelude.{ℕ, List, map}
use Rattle.std.specs.declared.option.Option.{Option}
use Rattle.mesh_base_values.specs.declared.values.Name.{Name}
use Rattle.mesh_trace.specs.declared.traces.Trace.{Trace}

abbrev pub as_trace : Name × Option (List ℕ) → Trace
as_trace (relation, column) = record { relation = relation; column = column }

abbrev pub as_traces : List (Name × Option (List ℕ)) → List Trace
as_traces pairs = map as_trace pairs
