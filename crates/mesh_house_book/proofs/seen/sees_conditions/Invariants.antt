use Rattle.std.proofs.Common.{◌≡◌, take}
use Rattle.mesh_base.specs.rules.Seen.{conditions_see}
use Rattle.mesh_house_book.specs.WellFormed.{tables_in}
use Rattle.mesh_house_book.proofs.seen.sees_conditions.Given as goal

abbrev pub invariant-loop-f : goal.invariant-loop-f
invariant-loop-f l = l.each ≡ conditions_see (tables_in l.all l.s l.ctes l.from) (take l.f-index l.of)
