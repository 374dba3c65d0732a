use Rattle.std.proofs.Common.{sym, ap, ◌∙◌}
use Rattle.std.specs.Option.{option_and_then}
use Rattle.mesh_layer.specs.Lost.{lost_object}
use Rattle.mesh_layer.proofs.Asking.{finds, shows, view_lost}
use Rattle.mesh_layer.proofs.Finding.{by_read, house_fails, part_fails, read_is, stays}
use Rattle.mesh_layer.proofs.shown.show.Goals as goal

pub returns-in_err-rows-in-Some : goal.returns-in_err-rows-in-Some
returns-in_err-rows-in-Some g c =
    shows _ _ _ _ _ (view_lost c.args.view.now)
    (part_fails _ _ _ _ _ _ _ _ _ c.in_err-rows-in-Some.field-0.0 c.from_residual-in_err-rows-in-Some.result (by_read _ _ _ _ c.in_ok-view.ensures) (finds _ _ _ _ _ c.in_err-rows-in-Some.ensures) c.from_residual-in_err-rows-in-Some.ensures.1
    (λ w told plain. (plain, λ o is. ap (option_and_then (lost_object w)) (sym (read_is _ _ _ _ c.in_ok-view.ensures w told) ∙ c.in-Some.is) ∙ is)))

pub returns-in_err-view : goal.returns-in_err-view
returns-in_err-view g c = shows _ _ _ _ _ (view_lost c.args.view.now) (house_fails _ _ _ _ _ _ _ c.in_err-view.field-0.0 c.from_residual.result (stays _) c.in_err-view.ensures c.from_residual.ensures.1)
