use Rattle.std.proofs.Common.{◌≡◌, take, map, IsTrue, Some}
use Rattle.mesh_house.specs.Sources.{are_plain}
use Rattle.mesh_layer.proofs.Finding.{Has}
use Rattle.mesh_spec_changes.specs.shown.Shown.{each_there}
use Rattle.mesh_audit.specs.Pools.{shown_model}
use Rattle.mesh_audit.proofs.tables.shown_tables.Given as goal

-- the models so far are tables
abbrev pub invariant-loop-m : goal.invariant-loop-m
invariant-loop-m g l = Has (λ w. IsTrue (are_plain w.sources)) (λ w. each_there (map (shown_model w) (take l.m-index l.models)) ≡ Some l.tables) (g.W.Warehouse.told l.fn.house) (g.W.Warehouse.told l.house)
