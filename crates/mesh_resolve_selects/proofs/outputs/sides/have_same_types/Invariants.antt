use Rattle.std.proofs.Common.{◌≡◌, drop}
use Rattle.mesh_base.specs.Outputs.{item_columns}
use Rattle.mesh_base_values.specs.Types.{have_same_types}
use Rattle.mesh_resolve_selects.proofs.outputs.sides.have_same_types.Given as goal

abbrev pub invariant-loop-i : goal.invariant-loop-i
invariant-loop-i l = have_same_types (item_columns (drop l.i l.a)) (item_columns (drop l.i l.b)) ≡ have_same_types (item_columns l.a) (item_columns l.b)
