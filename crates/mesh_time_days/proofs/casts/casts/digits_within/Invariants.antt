use Rattle.std.proofs.Common.{◌≡◌, ◌≤◌, ◌+◌, drop}
use Rattle.mesh_time_days.specs.casts.Casts.{digits_after}
use Rattle.mesh_time_days.proofs.casts.casts.digits_within.Given as goal

abbrev pub invariant-loop-byte : goal.invariant-loop-byte
invariant-loop-byte l = record { within : l.n ≤ l.most + 9; digits : digits_after l.n (drop l.byte-index l.text) ≡ digits_after 0 l.text }
