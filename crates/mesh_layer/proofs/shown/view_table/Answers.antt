use Rattle.std.proofs.Common.{Some, sym, ap, ◌∙◌}
use Rattle.mesh_house.specs.World.{view}
use Rattle.mesh_layer.specs.Asked.{lost_table, table_behind}
use Rattle.mesh_spec_changes.specs.Environments.{view_in}
use Rattle.mesh_layer.proofs.Finding.{answers, and_then, by_read, house_fails, part_fails, read_is, stays, told_later, wants}
use Rattle.mesh_layer.proofs.Heights.{target_is}
use Rattle.mesh_layer.proofs.shown.view_table.Goals as goal

pub returns-in_err-found-in-Some : goal.returns-in_err-found-in-Some
returns-in_err-found-in-Some g c =
    part_fails _ _ _ _ _ _ _ _ _ c.in_err-found-in-Some.field-0.0 c.from_residual-in_err-found-in-Some.result (by_read _ _ _ _ c.in_ok-view.ensures) c.in_err-found-in-Some.ensures.finds c.from_residual-in_err-found-in-Some.ensures.1
    (λ w told given. (
      given,
      λ o is.
          ap (lost_table w (view_in c.args.env.now c.args.model.now)) (ap (view w) (sym c.in_ok-name.ensures) ∙ sym (read_is _ _ _ _ c.in_ok-view.ensures w told) ∙ c.in-Some.is) ∙ is,
    ))

pub returns : goal.returns
returns g c =
    let there = c.in_ok-found-in-Some.ensures.finds in
    answers _ _ _ _ _ _ (and_then _ _ _ (by_read _ _ _ _ c.in_ok-view.ensures) there.untouched) (λ w told given.
    let here = there.ok w (told_later _ _ w (by_read _ _ _ _ c.in_ok-view.ensures) told) given in (
      here.0,
      ap (table_behind w c.args.model.now) (ap (view w) (sym c.in_ok-name.ensures) ∙ sym (read_is _ _ _ _ c.in_ok-view.ensures w told) ∙ c.in-Some.is)
          ∙ target_is w 4096 (record { first = c.args.model.now; second = c.in-Some.target }) c.in_ok-found-in-Some.found c.in_ok-found-in-Some.ensures.height here.1
          ∙ ap Some (sym c.in_ok-table-in-Some.ensures),
    ))

pub returns-in_err-name : goal.returns-in_err-name
returns-in_err-name g c = wants _ _ _ _ _ c.from_residual.result (stays _) c.from_residual.ensures.1

pub returns-in_err-view : goal.returns-in_err-view
returns-in_err-view g c = house_fails _ _ _ _ _ _ _ c.in_err-view.field-0.0 c.from_residual-in_err-view.result (stays _) c.in_err-view.ensures c.from_residual-in_err-view.ensures.1
