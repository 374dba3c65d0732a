use Rattle.std.proofs.Common.{◌≡◌, ℕ, false, length}
use Rattle.mesh_plan_due.specs.Lineages.{has_bit}
use Rattle.mesh_plan_due.proofs.lineages.no_bits.Given as goal

abbrev pub invariant-loop-at : goal.invariant-loop-at
invariant-loop-at l = record {
  long : length l.row.items ≡ l.at;
  none : (p : ℕ) → has_bit l.row.items p ≡ false;
}
