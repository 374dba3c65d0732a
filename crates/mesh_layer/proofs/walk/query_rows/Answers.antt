use Rattle.mesh_layer.proofs.Finding.{part_fails, stays, wants}
use Rattle.mesh_layer.proofs.walk.query_rows.Goals as goal

pub returns-in_err-read : goal.returns-in_err-read
returns-in_err-read g c =
    part_fails _ _ _ _ _ _ _ _ _ c.in_err-read.field-0.0 c.from_residual.result (stays _) c.in_err-read.ensures c.from_residual.ensures.1
    (λ w told plain. (plain, λ o is. is))

pub returns-in_err-append : goal.returns-in_err-append
returns-in_err-append g c = wants _ _ _ _ _ c.from_residual-in_err-append.result c.in_ok-read.ensures.untouched c.from_residual-in_err-append.ensures.1

pub returns-in_err-rows : goal.returns-in_err-rows
returns-in_err-rows g c = wants _ _ _ _ _ c.from_residual-in_err-rows.result c.in_ok-read.ensures.untouched c.from_residual-in_err-rows.ensures.1
