use Rattle.std.proofs.Common.{◌≡◌, ◌<◌, ◌/◌, ℕ, true, length}
use Rattle.mesh_plan_due.specs.Lineages.{has_bit}
use Rattle.mesh_plan_due.specs.Numbered.{HasNumber}
use Rattle.mesh_plan_due.proofs.numbers.renumbered.Given as goal

abbrev pub invariant-loop-at : goal.invariant-loop-at
invariant-loop-at l = record {
  long : length l.made.items ≡ l.words;
  found : (p : ℕ) → p / 64 < l.at → has_bit l.row p ≡ true → HasNumber l.numbers l.made.items p;
}
