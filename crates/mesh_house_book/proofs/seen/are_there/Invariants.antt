use Rattle.std.proofs.Common.{◌≡◌, take}
use Rattle.mesh_base.specs.rules.Seen.{are_there}
use Rattle.mesh_house_book.specs.WellFormed.{relations_of}
use Rattle.mesh_house_book.proofs.seen.are_there.Given as goal

abbrev pub invariant-loop-f : goal.invariant-loop-f
invariant-loop-f l = l.each ≡ are_there (relations_of l.all l.s) l.ctes (take l.f-index l.from)
