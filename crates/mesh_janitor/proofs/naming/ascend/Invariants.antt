use Rattle.std.proofs.Common.{◌≡◌, drop}
use Rattle.mesh_list.specs.Keyed.{ascends}
use Rattle.mesh_base_values.specs.Names.{name_cmp}
use Rattle.mesh_spec_changes.specs.Changes.{name_itself}
use Rattle.mesh_janitor.proofs.naming.ascend.Given as goal

abbrev pub invariant-loop-i : goal.invariant-loop-i
invariant-loop-i l = ascends name_cmp name_itself (drop l.i l.names) ≡ ascends name_cmp name_itself l.names
