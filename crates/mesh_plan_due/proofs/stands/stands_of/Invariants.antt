use Rattle.std.proofs.Common.{◌≡◌, ℤ, ◌≤ℤ◌, length, map}
use Rattle.std.specs.List.{range_with_len}
use Rattle.std.specs.Option.{option_copied}
use Rattle.mesh_time.specs.Ranges.{unit_at}
use Rattle.mesh_time.specs.Edits.{open_after}
use Rattle.mesh_plan_due.specs.Stands.{stand}
use Rattle.mesh_plan_due.proofs.stands.stands_of.Given as goal

abbrev pub invariant-loop-number : goal.invariant-loop-number
invariant-loop-number l = record {
  made : l.made.items ≡ map (stand l.named (option_copied l.restate) l.spans) (map (unit_at l.schedule) (range_with_len 0 l.number));
  long : length l.made.items ≡ l.number;
  rest : (t : ℤ) → (unit_at l.schedule l.number).start ≤ℤ t → open_after t l.rest ≡ open_after t l.spans;
}
