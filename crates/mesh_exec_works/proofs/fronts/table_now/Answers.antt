use Rattle.std.proofs.Common.{Some, sym, ap, ◌∙◌}
use Rattle.std.specs.Option.{option_map}
use Rattle.mesh_spec_model.specs.Scratch.{table_of}
use Rattle.mesh_layer.proofs.Finding.{answers, by_read, house_fails, read_is, stays}
use Rattle.mesh_exec_works.proofs.fronts.table_now.Goals as goal

pub returns-in_err-rows : goal.returns-in_err-rows
returns-in_err-rows g c = house_fails _ _ _ _ _ _ _ c.in_err-rows.field-0.0 c.from_residual.result (stays _) c.in_err-rows.ensures c.from_residual.ensures.1

pub returns-in-None : goal.returns-in-None
returns-in-None g c =
    answers _ _ _ _ _ _ (by_read _ _ _ _ c.in_ok-rows.ensures) (λ w told plain.
    sym (ap (option_map (table_of c.args.node.now.own)) (sym (read_is _ _ _ _ c.in_ok-rows.ensures w told) ∙ c.in-None.is)))

pub returns-in_ok-table-in-Some : goal.returns-in_ok-table-in-Some
returns-in_ok-table-in-Some g c =
    answers _ _ _ _ _ _ (by_read _ _ _ _ c.in_ok-rows.ensures) (λ w told plain.
    ap Some c.in_ok-table-in-Some.ensures ∙ ap (option_map (table_of c.args.node.now.own)) (sym c.in-Some.is ∙ read_is _ _ _ _ c.in_ok-rows.ensures w told))
