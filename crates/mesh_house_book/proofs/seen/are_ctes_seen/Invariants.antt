use Rattle.std.proofs.Common.{◌≡◌, take, drop, []}
use Rattle.mesh_base.specs.rules.Seen.{are_ctes_seen}
use Rattle.mesh_house_book.specs.WellFormed.{relations_of}
use Rattle.mesh_house_book.proofs.seen.are_ctes_seen.Given as goal

abbrev pub invariant-loop-i : goal.invariant-loop-i
invariant-loop-i l = are_ctes_seen (relations_of l.all l.s) (take l.i l.ctes) (drop l.i l.ctes) ≡ are_ctes_seen (relations_of l.all l.s) [] l.ctes
