use Rattle.std.proofs.Common.{◌≡◌, ℕ, ◌+◌, ◌*◌, ◌<◌, ◌≤◌, false}
use Rattle.mesh_time.specs.Ticks.{minute_matches}
use Rattle.mesh_time.proofs.ticks.last_in_hour.Given as goal

abbrev pub invariant-loop-back : goal.invariant-loop-back
invariant-loop-back l =
    (n : ℕ) → l.hour * 60 + l.last < n + l.back → n ≤ l.hour * 60 + l.last → minute_matches l.c n ≡ false
