use Rattle.std.proofs.Common.{◌≡◌, take, map, IsTrue, Some}
use Rattle.mesh_house.specs.Sources.{are_plain}
use Rattle.mesh_layer.proofs.Finding.{Has}
use Rattle.mesh_audit.specs.Audited.{found_by, gathered}
use Rattle.mesh_audit.specs.Pools.{Serves, plain}
use Rattle.mesh_audit.proofs.findings.found_over.Given as goal

-- what the audits so far find, with tables that serve
abbrev pub invariant-loop-a : goal.invariant-loop-a
invariant-loop-a g l =
    Has (λ w. IsTrue (are_plain w.sources))
    (λ w. Serves w (map plain l.all) l.pool × (gathered (found_by w (map plain l.all)) (take l.a-index l.audits) ≡ Some l.findings)) (g.W.Warehouse.told l.fn.house) (g.W.Warehouse.told l.house)
