use Rattle.std.proofs.Common.{◌≡◌, ◌-◌, ◌≤◌, drop, length, reverse}
use Rattle.mesh_time.specs.Ranges.{units}
use Rattle.mesh_plan_due.specs.Stands.{again_in, clear_of}
use Rattle.mesh_plan_due.proofs.again.units_backwards.Given as goal

abbrev pub invariant-loop-back : goal.invariant-loop-back
invariant-loop-back l = record {
  made : reverse l.made.items ≡ again_in l.lookback (drop (length l.stands - l.back) (units l.schedule)) (drop (length l.stands - l.back) l.stands);
  clear : l.clear ≡ clear_of l.lookback (drop (length l.stands - l.back) l.stands);
  bound : l.clear ≤ l.lookback;
}
