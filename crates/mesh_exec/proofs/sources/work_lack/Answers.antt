use Rattle.mesh_layer.proofs.Finding.{part_fails, stays}
use Rattle.mesh_exec.proofs.sources.work_lack.Goals as goal

pub returns-in_err-found : goal.returns-in_err-found
returns-in_err-found g c =
    part_fails _ _ _ _ _ _ _ _ _ c.in_err-found.field-0.0 c.from_residual.result (stays _) c.in_err-found.ensures c.from_residual.ensures.1
    (λ w told plain. (plain, λ o is. is))
