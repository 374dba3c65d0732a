use Rattle.std.proofs.Common.{◌≡◌, take}
use Rattle.std.specs.List.{filter}
use Rattle.mesh_base_values.specs.Kinds.{time_column}
use Rattle.mesh_spec_changes.specs.reuse.Cores.{is_wanted}
use Rattle.mesh_trace.proofs.narrowed.pruned_items.Given as goal

abbrev pub invariant-loop-i : goal.invariant-loop-i
invariant-loop-i l = l.made ≡ filter (is_wanted l.wanted.keys (time_column l.kind)) (take l.i-index l.items)
