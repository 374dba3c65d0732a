use Rattle.std.proofs.Common.{◌≡◌, take}
use Rattle.mesh_base.proofs.expression_copies.+copy.Given as goal

abbrev pub invariant-exprs_copied-loop-e : goal.invariant-exprs_copied-loop-e
invariant-exprs_copied-loop-e l = l.made ≡ take l.e-index l.e-items

abbrev pub invariant-whens_copied-loop-w : goal.invariant-whens_copied-loop-w
invariant-whens_copied-loop-w l = l.made ≡ take l.w-index l.w-items
