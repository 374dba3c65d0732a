use Rattle.std.proofs.Common.{◌≡◌, drop}
use Rattle.std.specs.List.{list_any}
use Rattle.mesh_resolve.specs.Owns.{keeps_time}
use Rattle.mesh_resolve.proofs.owns.timed.Given as goal

abbrev pub invariant-loop-c : goal.invariant-loop-c
invariant-loop-c l = list_any (keeps_time l.time) (drop l.c-index l.columns) ≡ list_any (keeps_time l.time) l.columns
