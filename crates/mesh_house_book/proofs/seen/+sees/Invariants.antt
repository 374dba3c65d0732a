use Rattle.std.proofs.Common.{◌≡◌, take, map}
use Rattle.std.specs.List.{list_all}
use Rattle.mesh_base.specs.rules.Seen.{sees, sees_when}
use Rattle.mesh_house_book.specs.WellFormed.{tables_in}
use Rattle.mesh_house_book.proofs.seen.+sees.Given as goal

abbrev pub invariant-sees_all-loop-e : goal.invariant-sees_all-loop-e
invariant-sees_all-loop-e l = l.seen ≡ list_all (λ b. b) (map (sees (tables_in l.all l.s l.ctes l.from)) (take l.e-index l.each))

abbrev pub invariant-sees_whens-loop-w : goal.invariant-sees_whens-loop-w
invariant-sees_whens-loop-w l = l.seen ≡ list_all (λ b. b) (map (sees_when (tables_in l.all l.s l.ctes l.from)) (take l.w-index l.each))
