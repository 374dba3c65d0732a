use Rattle.std.proofs.Common.{◌≡◌, drop}
use Rattle.mesh_lineage.specs.Joinable.{item_named}
use Rattle.mesh_lineage.proofs.joins.item_named.Given as goal

abbrev pub invariant-loop-i : goal.invariant-loop-i
invariant-loop-i l = item_named (drop l.i-index l.items) l.name ≡ item_named l.items l.name
