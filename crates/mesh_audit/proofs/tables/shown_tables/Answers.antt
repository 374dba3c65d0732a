use Rattle.std.proofs.Common.{Some, take, sym, ap, ◌∙◌, arith}
use Rattle.mesh_layer.proofs.Finding.{and_then, part_fails, told_later}
use Rattle.mesh_layer.proofs.Heights.{each_step, first_at, none_lost}
use Rattle.mesh_audit.proofs.Gathering.{table_found}
use Rattle.mesh_audit.specs.Pools.{lost_shown, plain, shown_model}
use Rattle.mesh_audit.proofs.tables.shown_tables.Goals as goal

pub returns-in_err-table : goal.returns-in_err-table
returns-in_err-table g c =
    let so_far = c.loop-m.invariant in
    let i = c.loop-m.m-index in
    part_fails _ _ _ _ _ _ _ _ _ c.in_err-table.field-0.0 c.from_residual.result so_far.untouched c.in_err-table.ensures c.from_residual.ensures.1
    (λ w told plainly.
    let here = so_far.told w told plainly in (
      plainly,
      λ o is. first_at (lost_shown w) c.args.models.now i c.m-item.result o (omega arith) c.m-item.is
          (none_lost (shown_model w) (lost_shown w) (λ m. table_found w (plain m)) (take i c.args.models.now) c.loop-m.tables here) is,
    ))

pub loop-m-preserved : goal.loop-m-preserved
loop-m-preserved g c =
    let so_far = c.loop-m.invariant in
    let there = c.in_ok-table.ensures in
    record {
      untouched = and_then _ _ _ so_far.untouched there.untouched;
      told = λ w told plainly.
          let here = so_far.told w told plainly in
          let found = there.ok w (told_later _ _ w so_far.untouched told) plainly in
          each_step (shown_model w) c.args.models.now c.loop-m.m-index c.m-item.result c.loop-m.tables c.in_ok-table.table (omega arith) c.m-item.is here found
          ∙ ap Some (sym c.in_ok-push.ensures.ok);
    }
