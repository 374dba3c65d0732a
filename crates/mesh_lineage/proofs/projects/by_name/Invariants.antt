use Rattle.std.proofs.Common.{◌≡◌, length}
use Rattle.mesh_lineage.specs.Pairs.{as_pairs}
use Rattle.mesh_lineage.specs.Unsteady.{by_name}
use Rattle.mesh_lineage.proofs.ByName.{onto}
use Rattle.mesh_lineage.proofs.projects.by_name.Given as goal

abbrev pub invariant-loop-pair : goal.invariant-loop-pair
invariant-loop-pair l = onto l.rest.items (as_pairs l.map.entries) ≡ by_name l.initial.rest.items

abbrev pub decreases-loop-pair : goal.decreases-loop-pair
decreases-loop-pair l = length l.rest.items
