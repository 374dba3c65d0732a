use Rattle.std.proofs.Common.{◌≡◌, take}
use Rattle.mesh_base.specs.rules.Proper.{selects_names}
use Rattle.mesh_house_book.specs.Named.{are_known}
use Rattle.mesh_house_book.proofs.named.selects_are_known.Given as goal

abbrev pub invariant-loop-select : goal.invariant-loop-select
invariant-loop-select l = l.each ≡ are_known l.parents l.own (selects_names (take l.select-index l.selects))
