use Rattle.std.proofs.Common.{◌≡◌, take}
use Rattle.std.specs.List.{list_any}
use Rattle.mesh_spec_changes.specs.steady.Steady.{is_timed_source}
use Rattle.mesh_lineage.proofs.reaches.has_timed_source.Given as goal

abbrev pub invariant-loop-d : goal.invariant-loop-d
invariant-loop-d l = l.found ≡ list_any is_timed_source (take l.d-index l.d-items)
