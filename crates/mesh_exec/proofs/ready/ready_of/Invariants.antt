use Rattle.std.proofs.Common.{◌≡◌, ◌≤◌, length, map, take}
use Rattle.mesh_exec.specs.Cuts.{AreCuts, count_runs, work_of}
use Rattle.mesh_exec.proofs.ready.ready_of.Given as goal

-- the models so far are ready
abbrev pub invariant-loop-work : goal.invariant-loop-work
invariant-loop-work l = record {
  first : map work_of l.made ≡ take l.work-index l.works;
  many : length l.made ≡ l.work-index;
  each : AreCuts l.made;
  models : length l.made ≤ l.most;
  count : l.count ≡ count_runs l.made;
  runs : l.count ≤ 256;
}
