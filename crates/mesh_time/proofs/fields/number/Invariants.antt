use Rattle.std.proofs.Common.{◌≡◌, ◌≤◌, min, drop}
use Rattle.mesh_time.specs.CronText.{number_after, number}
use Rattle.mesh_time.proofs.fields.number.Given as goal

-- what is left goes on from the value
abbrev pub invariant-loop-byte : goal.invariant-loop-byte
invariant-loop-byte l = (min 1000 (number_after l.value (drop l.byte-index l.text)) ≡ min 1000 (number l.text)) × (l.value ≤ 1000)
