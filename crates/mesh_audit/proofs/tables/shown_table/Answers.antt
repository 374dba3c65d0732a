use Rattle.std.proofs.Common.{Some, sym, ap, ◌∙◌}
use Rattle.std.specs.Option.{option_map}
use Rattle.mesh_spec_model.specs.Scratch.{table_of}
use Rattle.mesh_layer.proofs.Asking.{finds}
use Rattle.mesh_layer.proofs.Finding.{answers, part_fails, stays}
use Rattle.mesh_audit.proofs.tables.shown_table.Goals as goal

pub returns-in_err-rows : goal.returns-in_err-rows
returns-in_err-rows g c =
    part_fails _ _ _ _ _ _ _ _ _ c.in_err-rows.field-0.0 c.from_residual.result (stays _) (finds _ _ _ _ _ c.in_err-rows.ensures) c.from_residual.ensures.1
    (λ w told plainly. (plainly, λ o is. is))

pub returns : goal.returns
returns g c =
    let rows = c.in_ok-rows.ensures in
    answers _ _ _ _ _ _ rows.untouched (λ w told plainly.
    ap (option_map (table_of c.args.m.now.node.now.own)) (rows.ok w (record { world = told; plain = plainly })) ∙ ap Some (sym c.in_ok-table.ensures))
