use Rattle.std.proofs.Common.{◌≡◌, take}
use Rattle.mesh_base.specs.rules.Proper.{names_of_all}
use Rattle.mesh_house_book.specs.Named.{are_known}
use Rattle.mesh_house_book.proofs.named.ctes_are_known.Given as goal

abbrev pub invariant-loop-selects : goal.invariant-loop-selects
invariant-loop-selects l = l.each ≡ are_known l.parents l.own (names_of_all (take l.selects-index l.ctes))
