use Rattle.std.proofs.Common.{◌≡◌, take, map, IsTrue, Some}
use Rattle.mesh_house.specs.Sources.{are_plain}
use Rattle.mesh_layer.proofs.Finding.{Has}
use Rattle.mesh_spec_changes.specs.shown.Shown.{each_there}
use Rattle.mesh_exec_works.specs.Tables.{work_table}
use Rattle.mesh_exec_works.proofs.tables.parent_tables.Given as goal

-- the parents so far are tables
abbrev pub invariant-loop-parent : goal.invariant-loop-parent
invariant-loop-parent g l = Has (λ w. IsTrue (are_plain w.sources)) (λ w. each_there (map (work_table w) (take l.parent-index l.parents)) ≡ Some l.tables) (g.W.Warehouse.told l.fn.house) (g.W.Warehouse.told l.house)
