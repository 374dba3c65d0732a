use Rattle.std.proofs.Common.{◌≡◌, ℤ, true, sym, ◌∙◌, ap, arith, FitsSigned, w64, to_z, of_z, rules}
use Rattle.std.specs.Int.Signed.{le_z}
use Rattle.std.proofs.lemmas.Int.{ints}
use Rattle.mesh_house.specs.Latest.{is_known}
use Rattle.mesh_house.proofs.Known.{known_behind}
use Rattle.mesh_house.proofs.latest.is_behind.Goals as goal

upto : (a b : ℤ) → FitsSigned w64 a → FitsSigned w64 b → le_z (to_z w64 (of_z w64 a)) (to_z w64 (of_z w64 b)) ≡ true → le_z a b ≡ true
upto a b fa fb h = grind (arith, ints)

pub returns-then-known-start : goal.returns-then-known-start
returns-then-known-start c = λ h w known.
    let l = c.in-Some.known in
    let both = c.is_of.ensures h in
    let fits : FitsSigned w64 l.end = search rules in
    known_behind w l c.args.object.now c.args.time.now c.args.start both.0 both.1 (upto l.end c.args.start fits c.ranges.start c.if-known-start.true) (ap (is_known w) (sym c.in-Some.is) ∙ known)
