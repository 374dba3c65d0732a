use Rattle.mesh_layer.proofs.Finding.{part_fails, stays, wants}
use Rattle.mesh_layer.proofs.sources.source_table.Goals as goal

pub returns-in_err-name : goal.returns-in_err-name
returns-in_err-name g c = wants _ _ _ _ _ c.from_residual.result (stays _) c.from_residual.ensures.1

pub returns-in_err-rows : goal.returns-in_err-rows
returns-in_err-rows g c =
    part_fails _ _ _ _ _ _ _ _ _ c.in_err-rows.field-0.0 c.from_residual-in_err-rows.result (stays _) c.in_err-rows.ensures c.from_residual-in_err-rows.ensures.1
    (λ w told plain. (plain, λ o is. is))
