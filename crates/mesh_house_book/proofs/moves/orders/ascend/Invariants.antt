use Rattle.std.proofs.Common.{◌≡◌, ◌-◌, drop}
use Rattle.mesh_list.specs.Keyed.{ascends}
use Rattle.mesh_base.specs.Keys.{ref_cmp, snapshot_ref}
use Rattle.mesh_house_book.proofs.moves.orders.ascend.Given as goal

abbrev pub invariant-loop-i : goal.invariant-loop-i
invariant-loop-i l = ascends ref_cmp snapshot_ref (drop (l.i - 1) l.snapshots) ≡ ascends ref_cmp snapshot_ref l.snapshots
