use Rattle.std.proofs.Common.{◌≡◌, List, [], length}
use Rattle.mesh_spec_model.specs.Closures.{Closure}
use Rattle.mesh_trace.specs.Asks.{all_fed}
use Rattle.mesh_trace.proofs.walk.nothing_asked.Given as goal

abbrev pub invariant-loop-at : goal.invariant-loop-at
invariant-loop-at l = record {
  long : length l.asks.items ≡ l.at;
  nothing : (cs : List Closure) → all_fed l.asks.items cs ≡ [];
}
