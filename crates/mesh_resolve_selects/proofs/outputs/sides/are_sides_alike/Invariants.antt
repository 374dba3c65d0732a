use Rattle.std.proofs.Common.{◌≡◌, drop}
use Rattle.std.specs.List.{list_all}
use Rattle.mesh_base.specs.Outputs.{select_columns}
use Rattle.mesh_resolve_selects.specs.outputs.Sides.{has_kinds_of, are_sides_alike}
use Rattle.mesh_resolve_selects.proofs.outputs.sides.are_sides_alike.Given as goal

abbrev pub invariant-loop-s : goal.invariant-loop-s
invariant-loop-s l = list_all (has_kinds_of (select_columns l.all)) (drop l.s-index l.all) ≡ are_sides_alike l.all
