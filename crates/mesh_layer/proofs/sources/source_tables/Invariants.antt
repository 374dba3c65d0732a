use Rattle.std.proofs.Common.{◌≡◌, take, map, IsTrue}
use Rattle.mesh_spec_model.specs.Sources.{declared}
use Rattle.mesh_house.specs.Sources.{are_plain}
use Rattle.mesh_layer.proofs.Finding.{Has}
use Rattle.mesh_layer.proofs.sources.source_tables.Given as goal

-- the sources so far are tables
abbrev pub invariant-loop-decl : goal.invariant-loop-decl
invariant-loop-decl g l = Has (λ w. IsTrue (are_plain w.sources)) (λ w. l.tables ≡ map (declared w.sources) (take l.decl-index l.sources)) (g.W.Warehouse.told l.fn.house) (g.W.Warehouse.told l.house)
