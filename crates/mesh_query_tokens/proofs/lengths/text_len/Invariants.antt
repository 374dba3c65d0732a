use Rattle.std.proofs.Common.{◌≡◌, ◌≤◌, ◌+◌, ◌-◌, length, drop}
use Rattle.std.specs.Option.{option_map}
use Rattle.mesh_query_tokens.specs.Pieces.{text_len}
use Rattle.mesh_query_tokens.proofs.lengths.text_len.Given as goal

abbrev pub invariant-loop-at : goal.invariant-loop-at
invariant-loop-at l = record {
  so_far : option_map (λ n. l.at + n) (text_len (drop l.at l.bytes)) ≡ text_len l.bytes;
  within : l.at ≤ length l.bytes;
}

abbrev pub decreases-loop-at : goal.decreases-loop-at
decreases-loop-at l = length l.bytes - l.at
