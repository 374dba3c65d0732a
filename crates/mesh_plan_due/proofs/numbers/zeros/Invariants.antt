use Rattle.std.proofs.Common.{◌≡◌, ℕ, length, get_or}
use Rattle.mesh_plan_due.proofs.numbers.zeros.Given as goal

abbrev pub invariant-loop-at : goal.invariant-loop-at
invariant-loop-at l = record {
  long : length l.numbers.items ≡ l.at;
  none : (p : ℕ) → get_or l.numbers.items p 0 ≡ 0;
}
