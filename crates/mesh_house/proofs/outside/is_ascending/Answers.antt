use Rattle.std.proofs.Common.{arith, sym, ap, ◌∙◌, refl}
use Rattle.std.specs.Ordering.{is_lt}
use Rattle.mesh_list.proofs.Standing.{ascends_so_far}
use Rattle.mesh_house.proofs.outside.is_ascending.Goals as goal

pub loop-i-preserved : goal.loop-i-preserved
loop-i-preserved g c = record {
  so_far = ascends_so_far g.T.Keyed.order g.met.T.Keyed.total g.T.Keyed.key c.args.items.now c.loop-i.i c.index-items-i.result c.index-items-i-in-loop-i.result (omega arith) (omega arith) c.index-items-i.is c.index-items-i-in-loop-i.is (ap is_lt (sym c.against.ensures) ∙ sym c.is_lt.ensures ∙ c.if-not-is_lt.false) c.loop-i.invariant.so_far;
  end = refl;
}
