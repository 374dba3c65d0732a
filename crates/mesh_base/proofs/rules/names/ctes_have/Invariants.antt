use Rattle.std.proofs.Common.{◌≡◌, take}
use Rattle.mesh_base.specs.rules.Proper.{is_among, names_of_all}
use Rattle.mesh_base.proofs.rules.names.ctes_have.Given as goal

abbrev pub invariant-loop-selects : goal.invariant-loop-selects
invariant-loop-selects l = l.found ≡ is_among (names_of_all (take l.selects-index l.ctes)) l.name
