use Rattle.std.proofs.Common.{◌≡◌, take}
use Rattle.mesh_base.specs.rules.Seen.{items_see}
use Rattle.mesh_house_book.specs.WellFormed.{tables_in}
use Rattle.mesh_house_book.proofs.seen.sees_items.Given as goal

abbrev pub invariant-loop-item : goal.invariant-loop-item
invariant-loop-item l = l.each ≡ items_see (tables_in l.all l.s l.ctes l.from) (take l.item-index l.items)
