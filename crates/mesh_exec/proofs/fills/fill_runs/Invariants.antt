use Rattle.std.proofs.Common.{◌≡◌, ◌≤◌, ◌-◌, length, take}
use Rattle.mesh_list.specs.Counts.{risen}
use Rattle.mesh_house.specs.Runs.{Ran}
use Rattle.mesh_exec_works.specs.Plain.{model_of}
use Rattle.mesh_exec.specs.Fills.{first_pool, run_fillings}
use Rattle.mesh_exec.proofs.fills.fill_runs.Given as goal

-- the due parts so far are filled
abbrev pub invariant-loop-at : goal.invariant-loop-at
invariant-loop-at g l = record {
  within : l.at ≤ length l.runs;
  ran : Ran (λ w. run_fillings (model_of l.node l.entry) (first_pool l.pools) (take l.at l.runs)) (g.W.Warehouse.told l.fn.house) (g.W.Warehouse.told l.house);
  number : l.made ≡ length (run_fillings (model_of l.node l.entry) (first_pool l.pools) (take l.at l.runs));
  calls : (g.W.Warehouse.told l.house).calls ≡ risen l.made (g.W.Warehouse.told l.fn.house).calls;
}

abbrev pub decreases-loop-at : goal.decreases-loop-at
decreases-loop-at g l = length l.runs - l.at
