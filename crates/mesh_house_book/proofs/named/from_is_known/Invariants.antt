use Rattle.std.proofs.Common.{◌≡◌, take}
use Rattle.mesh_base.specs.rules.Proper.{from_names}
use Rattle.mesh_house_book.specs.Named.{are_known}
use Rattle.mesh_house_book.proofs.named.from_is_known.Given as goal

abbrev pub invariant-loop-f : goal.invariant-loop-f
invariant-loop-f l = l.each ≡ are_known l.parents l.own (from_names (take l.f-index l.from))
