use Rattle.std.proofs.Common.{◌≡◌, take, map, Some, IsTrue}
use Rattle.mesh_house.specs.Sources.{are_plain}
use Rattle.mesh_spec_changes.specs.shown.Shown.{each_there}
use Rattle.mesh_layer.specs.Asked.{view_table}
use Rattle.mesh_layer.specs.Read.{AreKnown}
use Rattle.mesh_layer.proofs.Finding.{Has}
use Rattle.mesh_layer.proofs.shown.view_tables.Given as goal

-- the models so far are tables
abbrev pub invariant-loop-model : goal.invariant-loop-model
invariant-loop-model g l = Has (λ w. IsTrue (are_plain w.sources)) (λ w. AreKnown w l.known × (each_there (map (view_table l.env w) (take l.model-index l.models)) ≡ Some l.tables)) (g.W.Warehouse.told l.fn.house) (g.W.Warehouse.told l.house)
