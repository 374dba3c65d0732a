use Rattle.std.proofs.Common.{Some, take, sym, ap, ◌∙◌, arith}
use Rattle.mesh_layer.specs.Asked.{lost_model, view_table}
use Rattle.mesh_layer.proofs.Asking.{view_found}
use Rattle.mesh_layer.proofs.Finding.{and_then, part_fails, told_later}
use Rattle.mesh_layer.proofs.Heights.{each_step, first_at, none_lost}
use Rattle.mesh_layer.proofs.shown.view_tables.Goals as goal

pub returns-in_err-table : goal.returns-in_err-table
returns-in_err-table g c =
    let so_far = c.loop-model.invariant in
    let i = c.loop-model.model-index in
    let env = c.args.env.now in
    part_fails _ _ _ _ _ _ _ _ _ c.in_err-table.field-0.0 c.from_residual.result so_far.untouched c.in_err-table.ensures c.from_residual.ensures.1
    (λ w told plain.
    let here = so_far.told w told plain in (
      record { plain = plain; kept = here.0 },
      λ o is. first_at (lost_model env w) c.args.models.now i c.model-item.result o (omega arith) c.model-item.is
          (none_lost (view_table env w) (lost_model env w) (view_found env w) (take i c.args.models.now) c.loop-model.tables here.1) is,
    ))

pub loop-model-preserved : goal.loop-model-preserved
loop-model-preserved g c =
    let so_far = c.loop-model.invariant in
    let there = c.in_ok-table.ensures in
    record {
      untouched = and_then _ _ _ so_far.untouched there.untouched;
      told = λ w told plain.
          let here = so_far.told w told plain in
          let found = there.ok w (told_later _ _ w so_far.untouched told) (record { plain = plain; kept = here.0 }) in (
            found.0,
            each_step (view_table c.args.env.now w) c.args.models.now c.loop-model.model-index c.model-item.result c.loop-model.tables c.in_ok-table.table (omega arith) c.model-item.is here.1 found.1
                ∙ ap Some (sym c.in_ok-push.ensures.ok),
          );
    }
