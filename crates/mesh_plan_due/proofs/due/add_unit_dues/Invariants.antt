use Rattle.std.proofs.Common.{◌≡◌, ◌++◌, ℤ, ◌≤ℤ◌, map, filter}
use Rattle.std.specs.BTreeSet.{contains}
use Rattle.std.specs.List.{range_with_len}
use Rattle.mesh_time.specs.Ranges.{unit_at}
use Rattle.mesh_time.specs.Edits.{open_after}
use Rattle.mesh_base_values.specs.declared.times.Bounds.{Bounds}
use Rattle.mesh_plan_due.specs.Sets.{part_cmp}
use Rattle.mesh_plan_due.specs.Whole.{is_due, unit_due}
use Rattle.mesh_plan_due.proofs.due.add_unit_dues.Given as goal

abbrev pub invariant-loop-number : goal.invariant-loop-number
invariant-loop-number l = record {
  made : l.dues ≡ l.fn.dues ++ map (unit_due l.place) (filter (is_due l.spans (λ (u : Bounds). contains part_cmp l.again (u.start, u.end, l.object))) (map (unit_at l.schedule) (range_with_len 0 l.number)));
  rest : (t : ℤ) → (unit_at l.schedule l.number).start ≤ℤ t → open_after t l.rest ≡ open_after t l.spans;
  key : l.key.2 ≡ l.object;
}
