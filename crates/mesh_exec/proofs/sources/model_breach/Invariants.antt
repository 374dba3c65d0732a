use Rattle.std.proofs.Common.{◌≡◌, take, IsTrue}
use Rattle.mesh_house.specs.Sources.{are_plain}
use Rattle.mesh_layer.proofs.Finding.{Has}
use Rattle.mesh_exec.specs.Sources.{model_breach}
use Rattle.mesh_exec.proofs.sources.model_breach.Given as goal

abbrev pub invariant-loop-decl : goal.invariant-loop-decl
invariant-loop-decl g l = Has (λ w. IsTrue (are_plain w.sources)) (λ w. l.found ≡ model_breach w.sources (take l.decl-index l.decls)) (g.W.Warehouse.told l.fn.house) (g.W.Warehouse.told l.house)
