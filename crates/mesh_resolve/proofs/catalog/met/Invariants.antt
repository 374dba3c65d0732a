use Rattle.std.proofs.Common.{◌≡◌, drop}
use Rattle.mesh_list.specs.Keyed.{found}
use Rattle.mesh_base_values.specs.Names.{name_cmp}
use Rattle.mesh_resolve.proofs.catalog.met.Given as goal

abbrev pub invariant-loop-item : goal.invariant-loop-item
invariant-loop-item g l = found name_cmp g.T.Named.called l.name (drop l.item-index l.items) ≡ found name_cmp g.T.Named.called l.name l.items
