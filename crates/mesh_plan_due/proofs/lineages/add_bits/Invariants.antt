use Rattle.std.proofs.Common.{◌≡◌, length}
use Rattle.mesh_plan_due.proofs.Bits.{Joined}
use Rattle.mesh_plan_due.proofs.lineages.add_bits.Given as goal

abbrev pub invariant-loop-at : goal.invariant-loop-at
invariant-loop-at l = record {
  long : length l.row.items ≡ length l.initial.row.items;
  joined : Joined l.initial.row.items l.other l.at l.row.items;
}
