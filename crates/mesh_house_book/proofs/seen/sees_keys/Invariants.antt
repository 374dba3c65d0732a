use Rattle.std.proofs.Common.{◌≡◌, take}
use Rattle.mesh_base.specs.rules.Seen.{keys_see}
use Rattle.mesh_house_book.specs.WellFormed.{tables_in}
use Rattle.mesh_house_book.proofs.seen.sees_keys.Given as goal

abbrev pub invariant-loop-key : goal.invariant-loop-key
invariant-loop-key l = l.each ≡ keys_see (tables_in l.all l.s l.ctes l.from) (take l.key-index l.keys)
