use Rattle.std.proofs.Common.{◌≡◌, ◌+◌, ℕ, length}
use Rattle.std.specs.Int.{bit_at}
use Rattle.mesh_plan_due.specs.Numbered.{HasNumber, KeepsBits}
use Rattle.mesh_plan_due.proofs.numbers.add_word.Given as goal

abbrev pub invariant-loop-rest : goal.invariant-loop-rest
invariant-loop-rest l = record {
  long : length l.made.items ≡ length l.initial.made.items;
  kept : KeepsBits l.initial.made.items l.made.items;
  found : (b : ℕ) → bit_at l.rest b ≡ 0 → bit_at l.word b ≡ 1 → HasNumber l.numbers l.made.items (l.first + b);
}

abbrev pub decreases-loop-rest : goal.decreases-loop-rest
decreases-loop-rest l = l.rest
