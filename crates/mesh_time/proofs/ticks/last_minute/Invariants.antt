use Rattle.std.proofs.Common.{◌≡◌, ℕ, ◌*◌, ◌-◌, ◌≤◌, false}
use Rattle.mesh_time.specs.Ticks.{minute_matches}
use Rattle.mesh_time.proofs.ticks.last_minute.Given as goal

abbrev pub invariant-loop-back : goal.invariant-loop-back
invariant-loop-back l = (n : ℕ) → (l.hour - l.back) * 60 ≤ n → n ≤ l.latest → minute_matches l.c n ≡ false
