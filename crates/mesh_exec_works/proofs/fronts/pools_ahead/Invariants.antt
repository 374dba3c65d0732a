use Rattle.std.proofs.Common.{◌≡◌, ◌<◌, ◌≤◌, ◌++◌, [], drop, length, take, map, IsTrue, true, Some}
use Rattle.std.specs.Option.{option_copied}
use Rattle.mesh_house.specs.declared.world.World.{World}
use Rattle.mesh_exec_works.specs.declared.works.Work.{Work}
use Rattle.mesh_house.specs.Sources.{are_plain}
use Rattle.mesh_layer.proofs.Finding.{Has}
use Rattle.mesh_exec_works.specs.Fronts.{are_there, each_pool, last_pool, pool_now, pools_from}
use Rattle.mesh_exec_works.specs.Plain.{plain_models}
use Rattle.mesh_exec_works.specs.Works.{part_of}
use Rattle.mesh_exec_works.proofs.fronts.pools_ahead.Given as goal

-- what has come and what is left are all of them
abbrev pub invariant-loop-i : goal.invariant-loop-i
invariant-loop-i g l = record {
  few : length l.made.numbers ≤ l.i;
  pools : length l.made.pools ≤ l.i;
  there : are_there l.made ≡ true;
  told : Has (λ w. IsTrue (are_plain w.sources))
      (λ w. each_pool l.made ++ pools_from w (plain_models l.nodes l.entries) (map part_of (take l.i l.works)) (map part_of (drop l.i l.works)) ≡ pools_from w (plain_models l.nodes l.entries) [] (map part_of l.works))
      (g.W.Warehouse.told l.fn.house) (g.W.Warehouse.told l.house);
  any : (b : Work) → option_copied l.before ≡ Some b → 0 < length l.made.pools;
  last : (w : World) → (g.W.Warehouse.told l.fn.house).world ≡ Some w → IsTrue (are_plain w.sources) → (b : Work) → option_copied l.before ≡ Some b
      → pool_now w (plain_models l.nodes l.entries) (map part_of (take l.i l.works)) (part_of b) ≡ Some (last_pool l.made);
}
