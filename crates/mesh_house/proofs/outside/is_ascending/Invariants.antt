use Rattle.std.proofs.Common.{◌≡◌, true, take, length}
use Rattle.mesh_list.specs.Keyed.{ascends}
use Rattle.mesh_house.proofs.outside.is_ascending.Given as goal

abbrev pub invariant-loop-i : goal.invariant-loop-i
invariant-loop-i g l = record {
  so_far : ascends g.T.Keyed.order g.T.Keyed.key (take l.i l.items) ≡ true;
  end : l.i-end ≡ length l.items;
}
