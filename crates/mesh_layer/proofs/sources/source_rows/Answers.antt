use Rattle.std.proofs.Common.{◌≡◌, true, false, sym, ap, ◌∙◌}
use Rattle.mesh_base_values.specs.Names.{has_two_underscores}
use Rattle.mesh_spec_model.specs.Sources.{declared_rows}
use Rattle.mesh_layer.proofs.Finding.{answers, by_read, house_fails, read_is, stays}
use Rattle.mesh_layer.proofs.Reading.{no_source, source_read}
use Rattle.mesh_layer.proofs.sources.source_rows.Goals as goal

pub returns-then-has_two_underscores : goal.returns-then-has_two_underscores
returns-then-has_two_underscores g c =
    let physical : has_two_underscores c.args.decl.now.name.schema ≡ true = sym (c.has_two_underscores.ensures ∙ ap has_two_underscores c.as_slice.ensures) ∙ c.if-has_two_underscores.true in
    answers _ _ _ _ _ _ (stays _) (λ w told plain. c.new.ensures ∙ sym (ap (declared_rows c.args.decl.now.columns) (no_source c.args.decl.now.name w.sources plain physical)))

pub returns-in_err-kept : goal.returns-in_err-kept
returns-in_err-kept g c = house_fails _ _ _ _ _ _ _ c.in_err-kept.field-0.0 c.from_residual.result (stays _) (c.in_err-kept.ensures.source c.args.decl.now.columns (cc)) c.from_residual.ensures.1

pub returns : goal.returns
returns g c =
    let apart : has_two_underscores c.args.decl.now.name.schema ≡ false = sym (c.has_two_underscores.ensures ∙ ap has_two_underscores c.as_slice.ensures) ∙ c.if-has_two_underscores.false in
    let reads = c.in_ok-kept.ensures.source c.args.decl.now.columns (cc) in
    answers _ _ _ _ _ _ (by_read _ _ _ _ reads) (λ w told plain. c.table_rows.ensures _ (read_is _ _ _ _ reads w told) ∙ source_read w c.args.decl.now apart)
