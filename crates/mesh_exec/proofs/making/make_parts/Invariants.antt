use Rattle.std.proofs.Common.{◌≤◌, ◌-◌, drop, length, map, take}
use Rattle.mesh_exec_works.specs.Plain.{plain_models}
use Rattle.mesh_exec_works.specs.Works.{part_of}
use Rattle.mesh_exec.proofs.Models.{SoFar}
use Rattle.mesh_exec.proofs.making.make_parts.Given as goal

-- the models so far were made
abbrev pub invariant-loop-at : goal.invariant-loop-at
invariant-loop-at g l = record {
  within : l.at ≤ length l.works;
  so_far : SoFar (plain_models l.nodes l.entries) (map part_of l.works) (map part_of (take l.at l.works)) (map part_of (drop l.at l.works)) l.made (g.W.Warehouse.told l.fn.house) (g.W.Warehouse.told l.house);
}

abbrev pub decreases-loop-at : goal.decreases-loop-at
decreases-loop-at g l = length l.works - l.at
