use Rattle.mesh_layer.proofs.Finding.{read_fails}
use Rattle.mesh_layer.proofs.walk.columns_at.Goals as goal

pub returns-in_err-columns : goal.returns-in_err-columns
returns-in_err-columns g c = read_fails _ _ _ _ c.in_err-columns.field-0.0 c.from_residual.result c.in_err-columns.ensures c.from_residual.ensures.1
