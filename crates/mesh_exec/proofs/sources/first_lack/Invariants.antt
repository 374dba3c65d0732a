use Rattle.std.proofs.Common.{◌≡◌, drop, map, IsTrue}
use Rattle.mesh_house.specs.Sources.{are_plain}
use Rattle.mesh_layer.proofs.Finding.{Has}
use Rattle.mesh_exec_works.specs.Works.{part_of}
use Rattle.mesh_exec.specs.Sources.{first_lack}
use Rattle.mesh_exec.proofs.sources.first_lack.Given as goal

-- the models so far lack nothing
abbrev pub invariant-loop-work : goal.invariant-loop-work
invariant-loop-work g l = Has (λ w. IsTrue (are_plain w.sources)) (λ w. first_lack w.sources (map part_of l.works) ≡ first_lack w.sources (map part_of (drop l.work-index l.works))) (g.W.Warehouse.told l.fn.house) (g.W.Warehouse.told l.house)
