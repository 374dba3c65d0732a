use Rattle.std.proofs.Common.{length, sym, subst}
use Rattle.mesh_plan_due.specs.Numbered.{ArePlaced}
use Rattle.mesh_plan_due.proofs.Places.{are_placed}
use Rattle.mesh_plan_due.proofs.due.sight_of.Goals as goal

pub numbers_of-requires : goal.numbers_of-requires
numbers_of-requires c = subst (ArePlaced (length c.args.nodes.now)) (sym c.deref.ensures.value) (are_placed c.args.nodes.now c.args.seconds.now c.in_ok-spots.spots.items c.in_ok-spots.ensures)
