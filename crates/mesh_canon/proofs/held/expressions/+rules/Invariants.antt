use Rattle.std.proofs.Common.{◌≡◌, true, map, take}
use Rattle.std.specs.List.{list_all}
use Rattle.mesh_canon_reading.specs.Fits.{expr_fits, when_fits}
use Rattle.mesh_canon.proofs.held.expressions.+rules.Given as goal

abbrev pub invariant-exprs_rule-loop-e : goal.invariant-exprs_rule-loop-e
invariant-exprs_rule-loop-e l = list_all (λ b. b) (map expr_fits (take l.e-index l.all)) ≡ true

abbrev pub invariant-whens_rule-loop-w : goal.invariant-whens_rule-loop-w
invariant-whens_rule-loop-w l = list_all (λ b. b) (map when_fits (take l.w-index l.all)) ≡ true
