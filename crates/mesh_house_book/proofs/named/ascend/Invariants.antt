use Rattle.std.proofs.Common.{◌≡◌, drop}
use Rattle.mesh_list.specs.Keyed.{ascends}
use Rattle.mesh_base_values.specs.Names.{name_cmp}
use Rattle.mesh_base.specs.Keys.{ref_name}
use Rattle.mesh_house_book.proofs.named.ascend.Given as goal

abbrev pub invariant-loop-i : goal.invariant-loop-i
invariant-loop-i l = ascends name_cmp ref_name (drop l.i l.refs) ≡ ascends name_cmp ref_name l.refs
