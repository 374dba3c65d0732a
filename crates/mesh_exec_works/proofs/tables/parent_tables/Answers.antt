use Rattle.std.proofs.Common.{Some, take, sym, ap, ◌∙◌, arith}
use Rattle.mesh_layer.proofs.Finding.{and_then, part_fails, told_later}
use Rattle.mesh_layer.proofs.Heights.{each_step, first_at, none_lost}
use Rattle.mesh_exec_works.proofs.Parents.{table_shown}
use Rattle.mesh_exec_works.specs.Lost.{lost_work}
use Rattle.mesh_exec_works.specs.Tables.{work_table}
use Rattle.mesh_exec_works.proofs.tables.parent_tables.Goals as goal

pub returns-in_err-table : goal.returns-in_err-table
returns-in_err-table g c =
    let so_far = c.loop-parent.invariant in
    let i = c.loop-parent.parent-index in
    part_fails _ _ _ _ _ _ _ _ _ c.in_err-table.field-0.0 c.from_residual.result so_far.untouched c.in_err-table.ensures c.from_residual.ensures.1
    (λ w told plain.
    let here = so_far.told w told plain in (
      plain,
      λ o is. first_at (lost_work w) c.args.parents.now i c.parent-item.result o (omega arith) c.parent-item.is
          (none_lost (work_table w) (lost_work w) (table_shown w) (take i c.args.parents.now) c.loop-parent.tables here) is,
    ))

pub loop-parent-preserved : goal.loop-parent-preserved
loop-parent-preserved g c =
    let so_far = c.loop-parent.invariant in
    let there = c.in_ok-table.ensures in
    record {
      untouched = and_then _ _ _ so_far.untouched there.untouched;
      told = λ w told plain.
          let here = so_far.told w told plain in
          let found = there.ok w (told_later _ _ w so_far.untouched told) plain in
          each_step (work_table w) c.args.parents.now c.loop-parent.parent-index c.parent-item.result c.loop-parent.tables c.in_ok-table.table (omega arith) c.parent-item.is here found
          ∙ ap Some (sym c.in_ok-push.ensures.ok);
    }
