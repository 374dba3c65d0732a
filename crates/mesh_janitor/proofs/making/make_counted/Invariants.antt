use Rattle.std.proofs.Common.{◌≡◌, take}
use Rattle.mesh_list.specs.Counts.{risen}
use Rattle.mesh_house.specs.Runs.{Ran}
use Rattle.mesh_janitor.proofs.making.make_counted.Given as goal

-- the changes so far have been made
abbrev pub invariant-loop-change : goal.invariant-loop-change
invariant-loop-change g l = Ran (λ w. take l.change-index l.list) (g.W.Warehouse.told l.fn.house) (g.W.Warehouse.told l.house) × ((g.W.Warehouse.told l.house).calls ≡ risen l.change-index (g.W.Warehouse.told l.fn.house).calls)
