use Rattle.std.proofs.Common.{◌≡◌, take}
use Rattle.mesh_base.specs.rules.Seen.{are_selects_seen}
use Rattle.mesh_house_book.specs.WellFormed.{relations_of}
use Rattle.mesh_house_book.proofs.seen.are_selects_seen.Given as goal

abbrev pub invariant-loop-select : goal.invariant-loop-select
invariant-loop-select l = l.each ≡ are_selects_seen (relations_of l.all l.s) l.ctes (take l.select-index l.selects)
