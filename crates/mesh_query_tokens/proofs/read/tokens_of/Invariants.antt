use Rattle.std.proofs.Common.{◌≡◌, ◌≤◌, ◌-◌, [], drop, length}
use Rattle.mesh_query_tokens.specs.Text.{tokens_from, largest_file}
use Rattle.mesh_query_tokens.proofs.read.tokens_of.Given as goal

abbrev pub invariant-loop-at : goal.invariant-loop-at
invariant-loop-at l = record {
  so_far : tokens_from l.made 0 l.at (drop l.at l.bytes) ≡ tokens_from [] 0 0 l.bytes;
  within : l.at ≤ length l.bytes;
  small : length l.bytes ≤ largest_file;
}

abbrev pub decreases-loop-at : goal.decreases-loop-at
decreases-loop-at l = length l.bytes - l.at
