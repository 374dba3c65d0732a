use Rattle.std.proofs.Common.{◌∷◌, ◌++◌, [], ◌∙◌}
use Rattle.csv.specs.Records.{fields_of}
use Rattle.mesh_cli_print.specs.printed.Records.{column_name}
use Rattle.mesh_cli_print.proofs.printed.Growing.{all_made, one_made}
use Rattle.mesh_cli_print.proofs.printed.records.head_record.Goals as goal

pub loop-column-preserved : goal.loop-column-preserved
loop-column-preserved c =
    let put = c.in_ok-push_field.ensures in
    let before = c.loop-column.invariant in (
      one_made column_name c.args.columns.now c.loop-column.column-index c.column-item.result _ _ c.loop-column-test.true c.column-item.is before.0
          (put.fields ∙ (λ i. fields_of c.loop-column.made ++ (before.1 i ++ c.as_slice.ensures i) ∷ [])),
      put.partial,
    )

pub returns : goal.returns
returns c = all_made column_name c.args.columns.now c.loop-column.column-index _ c.loop-column-test.false c.loop-column.invariant.0
