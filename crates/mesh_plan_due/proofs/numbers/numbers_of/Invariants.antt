use Rattle.std.proofs.Common.{◌≡◌, ◌<◌, ◌≤◌, ℕ, length, get_or}
use Rattle.std.specs.List.{slice_get}
use Rattle.std.specs.declared.option.Option.TheVariants.{Some}
use Rattle.mesh_plan_due.specs.declared.marks.Spot.{Spot}
use Rattle.mesh_plan_due.proofs.numbers.numbers_of.Given as goal

abbrev pub invariant-loop-at : goal.invariant-loop-at
invariant-loop-at l = record {
  long : length l.numbers.items ≡ l.count;
  each : (i : ℕ) (s : Spot) → i < l.at → slice_get l.spots i ≡ Some s → get_or l.numbers.items s.place 0 ≡ i;
  few : (p : ℕ) → get_or l.numbers.items p 0 ≤ length l.spots;
}
