use Rattle.std.proofs.Common.{◌≡◌, List, Some, map, subst, ◌∙◌}
use Rattle.mesh_base_values.specs.declared.values.Name.{Name}
use Rattle.mesh_layer.specs.Asked.{lost_model}
use Rattle.mesh_layer.specs.Lost.{first_of}
use Rattle.mesh_layer.proofs.Asking.{asked_lost, shows}
use Rattle.mesh_layer.proofs.Finding.{part_fails, stays, wants}
use Rattle.mesh_layer.proofs.shown.ask.Goals as goal

pub returns-in_err-tables : goal.returns-in_err-tables
returns-in_err-tables g c =
    shows _ _ _ _ _ (asked_lost c.args.b.now c.args.env.now c.args.q.now)
    (part_fails _ _ _ _ _ _ _ _ _ c.in_err-tables.field-0.0 c.from_residual-in_err-tables.result (stays _) c.in_err-tables.ensures c.from_residual-in_err-tables.ensures.1
    (λ w told plain. (plain, λ o is. subst (λ (l : List Name). first_of (map (lost_model c.args.env.now w) l) ≡ Some o) (c.as_slice.ensures ∙ c.in_ok-models.ensures) is)))

pub returns-in_err-models : goal.returns-in_err-models
returns-in_err-models g c = shows _ _ _ _ _ (asked_lost c.args.b.now c.args.env.now c.args.q.now) (wants _ _ _ _ _ c.from_residual.result (stays _) c.from_residual.ensures.1)

pub returns-in_err-rows : goal.returns-in_err-rows
returns-in_err-rows g c = shows _ _ _ _ _ (asked_lost c.args.b.now c.args.env.now c.args.q.now) (wants _ _ _ _ _ c.from_residual-in_err-rows.result c.in_ok-tables.ensures.untouched c.from_residual-in_err-rows.ensures.1)
