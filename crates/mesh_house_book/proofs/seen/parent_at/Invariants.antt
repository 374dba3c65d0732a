use Rattle.std.proofs.Common.{◌≡◌, drop}
use Rattle.mesh_list.specs.Keyed.{found}
use Rattle.mesh_base_values.specs.Names.{name_cmp}
use Rattle.mesh_base.specs.Keys.{ref_name}
use Rattle.mesh_house_book.proofs.seen.parent_at.Given as goal

abbrev pub invariant-loop-parent : goal.invariant-loop-parent
invariant-loop-parent l = found name_cmp ref_name l.name (drop l.parent-index l.parents) ≡ found name_cmp ref_name l.name l.parents
