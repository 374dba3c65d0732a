use Rattle.std.proofs.Common.{◌∙◌, arith}
use Rattle.mesh_spec_model.specs.Sources.{declared}
use Rattle.mesh_layer.proofs.Finding.{and_then, one_more, part_fails, told_later}
use Rattle.mesh_layer.proofs.sources.source_tables.Goals as goal

pub returns-in_err-table : goal.returns-in_err-table
returns-in_err-table g c =
    part_fails _ _ _ _ _ _ _ _ _ c.in_err-table.field-0.0 c.from_residual.result c.loop-decl.invariant.untouched c.in_err-table.ensures c.from_residual.ensures.1
    (λ w told plain. (plain, λ o is. is))

pub loop-decl-preserved : goal.loop-decl-preserved
loop-decl-preserved g c =
    let so_far = c.loop-decl.invariant in
    let there = c.in_ok-table.ensures in
    record {
      untouched = and_then _ _ _ so_far.untouched there.untouched;
      told = λ w told plain.
          c.in_ok-push.ensures.ok
          ∙ one_more (declared w.sources) c.args.sources.now c.loop-decl.decl-index c.decl-item.result c.loop-decl.tables c.in_ok-table.table (omega arith) c.decl-item.is
          (so_far.told w told plain) (there.ok w (told_later _ _ w so_far.untouched told) plain);
    }
