use Rattle.std.proofs.Common.{◌≡◌, true, take, length}
use Rattle.mesh_list.specs.Keyed.{ascends}
use Rattle.mesh_base_values.specs.Names.{name_cmp}
use Rattle.mesh_resolve.proofs.catalog.is_ascending.Given as goal

abbrev pub invariant-loop-i : goal.invariant-loop-i
invariant-loop-i g l = record {
  so_far : ascends name_cmp g.T.Named.called (take l.i l.items) ≡ true;
  end : l.i-end ≡ length l.items;
}
