use Rattle.mesh_layer.proofs.Asking.{shows}
use Rattle.mesh_layer.proofs.Finding.{part_fails, stays}
use Rattle.mesh_cli_look.proofs.asking.Evaluating.{rows_lost}
use Rattle.mesh_cli_look.proofs.asking.evaluated.found_rows.Goals as goal

pub returns-in_err-tables : goal.returns-in_err-tables
returns-in_err-tables g c =
    shows _ _ _ _ _ (λ w o lost. rows_lost c.args.env.now c.args.s.now w o lost c.args.u)
    (part_fails _ _ _ _ _ _ _ _ _ c.in_err-tables.field-0.0 c.from_residual.result (stays _) c.in_err-tables.ensures c.from_residual.ensures.1 (λ w told plain. (plain, λ o is. is)))
