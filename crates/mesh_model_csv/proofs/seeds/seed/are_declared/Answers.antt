use Rattle.std.proofs.Common.{◌==◌, length, sym, ap, ◌∙◌}
use Rattle.std.specs.Option.{is_some}
use Rattle.mesh_model_csv.specs.seeds.Seeds.{is_declared}
use Rattle.mesh_model_csv.proofs.seeds.OneMore.{both_here, both_lost}
use Rattle.mesh_model_csv.proofs.seeds.seed.are_declared.Goals.{then-each, else-each}
use Rattle.mesh_model_csv.proofs.seeds.seed.are_declared.Goals as goal

pub loop-name-preserved : goal.loop-name-preserved
loop-name-preserved c =
    let columns = c.args.columns.now in
    let names = c.args.names.now in
    let as_many = length columns == length names in
    elim c.if-each.branch [
      | then-each w ↦
          w.each-is ∙ both_here as_many (is_declared columns) names c.loop-name.name-index c.name-item.result w.is_some-each.result c.loop-name-test.true c.name-item.is (sym c.loop-name.invariant ∙ w.if-each.true)
          (w.is_some-each.ensures ∙ ap is_some w.declared_kind.ensures)
      | else-each w ↦ w.each-is ∙ both_lost as_many (is_declared columns) names c.loop-name.name-index _ w.if-each.false (sym c.loop-name.invariant ∙ w.if-each.false)
    ]
