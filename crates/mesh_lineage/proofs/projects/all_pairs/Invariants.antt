use Rattle.std.proofs.Common.{◌≡◌, map, take}
use Rattle.std.specs.List.{flat_map}
use Rattle.mesh_spec_model.specs.Closures.{closures}
use Rattle.mesh_lineage.specs.Reaches.{reach}
use Rattle.mesh_lineage.specs.Unsteady.{unsteady_pair}
use Rattle.mesh_lineage.proofs.projects.all_pairs.Given as goal

abbrev pub invariant-loop-n : goal.invariant-loop-n
invariant-loop-n l = record {
  reaches : l.reaches.items ≡ map reach (closures (take l.n-index l.nodes));
  pairs : l.pairs ≡ flat_map unsteady_pair (closures (take l.n-index l.nodes));
}
