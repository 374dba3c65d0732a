use Rattle.std.proofs.Common.{◌≡◌, true, sym, ap, ◌∙◌}
use Rattle.std.specs.Option.{option_map}
use Rattle.mesh_base_values.specs.Names.{has_two_underscores}
use Rattle.mesh_base.specs.declared.jobs.Input.{Input}
use Rattle.mesh_layer.proofs.Finding.{answers, house_fails, stays}
use Rattle.mesh_layer.proofs.Reading.{no_source}
use Rattle.mesh_exec.proofs.sources.head_of.Goals as goal

pub returns-then-has_two_underscores : goal.returns-then-has_two_underscores
returns-then-has_two_underscores g c =
    let physical : has_two_underscores c.args.decl.now.name.schema ≡ true = sym (c.has_two_underscores.ensures ∙ ap has_two_underscores c.as_slice.ensures) ∙ c.if-has_two_underscores.true in
    answers _ _ _ _ _ _ (stays _) (λ w told plain. sym (ap (option_map (λ (s : Input). s.columns)) (no_source c.args.decl.now.name w.sources plain physical)))

pub returns-in_err-columns : goal.returns-in_err-columns
returns-in_err-columns g c = house_fails _ _ _ _ _ _ _ c.in_err-columns.field-0.0 c.from_residual.result (stays _) c.in_err-columns.ensures c.from_residual.ensures.1
