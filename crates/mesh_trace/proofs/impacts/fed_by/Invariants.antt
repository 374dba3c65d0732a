use Rattle.std.proofs.Common.{◌≡◌, length, take}
use Rattle.std.specs.Prelude.{◌↔◌}
use Rattle.std.specs.List.{Contains}
use Rattle.mesh_spec_model.specs.Closures.{closures}
use Rattle.mesh_trace.specs.Impacts.{AreHits, IsFedBy}
use Rattle.mesh_trace.specs.declared.traces.Trace.{Trace}
use Rattle.mesh_trace.proofs.impacts.fed_by.Given as goal

abbrev pub invariant-loop-n : goal.invariant-loop-n
invariant-loop-n l = record {
  long : length l.hits.items ≡ l.n-index;
  known : AreHits l.source (closures l.nodes) l.hits.items;
  fed : (t : Trace) → Contains l.found t ↔ IsFedBy (take l.n-index (closures l.nodes)) l.source t;
}
