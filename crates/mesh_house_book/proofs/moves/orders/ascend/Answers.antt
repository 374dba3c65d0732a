use Rattle.mesh_base.specs.Keys.{ref_cmp, refs_exact, refs_total, snapshot_ref}
use Rattle.mesh_house_book.proofs.moves.Sorting.{up_to_end}
use Rattle.mesh_house_book.proofs.moves.orders.ascend.Goals as goal

pub returns : goal.returns
returns c = up_to_end ref_cmp refs_total refs_exact snapshot_ref c.args.snapshots.now c.loop-i.i c.loop-i-test.false c.loop-i.invariant
