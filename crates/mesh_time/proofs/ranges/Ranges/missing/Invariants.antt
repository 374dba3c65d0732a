use Rattle.std.proofs.Common.{◌≡◌, ℤ, ◌≤ℤ◌, map, filter, not}
use Rattle.std.specs.List.{range_with_len}
use Rattle.mesh_time.specs.Ranges.{is_held, unit_at}
use Rattle.mesh_time.specs.Edits.{open_after}
use Rattle.mesh_time.proofs.ranges.Ranges.missing.Given as goal

abbrev pub invariant-loop-number : goal.invariant-loop-number
invariant-loop-number l = record {
  made : l.made ≡ filter (λ u. not (is_held l.self u.start u.end)) (map (unit_at l.schedule) (range_with_len 0 l.number));
  rest : (t : ℤ) → (unit_at l.schedule l.number).start ≤ℤ t → open_after t l.rest ≡ open_after t l.self;
}
