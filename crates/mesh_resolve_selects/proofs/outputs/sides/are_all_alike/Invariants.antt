use Rattle.std.proofs.Common.{◌≡◌, drop}
use Rattle.std.specs.List.{list_all}
use Rattle.mesh_resolve_selects.specs.outputs.Sides.{are_sides_alike}
use Rattle.mesh_resolve_selects.proofs.outputs.sides.are_all_alike.Given as goal

abbrev pub invariant-loop-c : goal.invariant-loop-c
invariant-loop-c l = list_all are_sides_alike (drop l.c-index l.ctes) ≡ list_all are_sides_alike l.ctes
