use Rattle.std.proofs.Common.{List, Some, map, sym, ap, ◌∙◌, arith}
use Rattle.std.proofs.lemmas.List.{take_all}
use Rattle.mesh_layer.proofs.Finding.{and_then, answers, part_fails, told_later}
use Rattle.mesh_layer.proofs.Heights.{each_step}
use Rattle.mesh_spec_changes.specs.shown.Shown.{each_there}
use Rattle.mesh_exec_works.proofs.Pools.{nothing, one_absent}
use Rattle.mesh_exec_works.specs.declared.works.Work.{Work}
use Rattle.mesh_exec_works.specs.Fronts.{work_now}
use Rattle.mesh_exec_works.proofs.fronts.each_now.Goals as goal

pub returns-in_default : goal.returns-in_default
returns-in_default g c =
    let so_far = c.loop-parent.invariant in
    let there = c.in_ok-table.ensures in
    answers _ _ _ _ _ _ (and_then _ _ _ so_far.untouched there.untouched) (λ w told plain.
    sym (one_absent (work_now w) c.args.parents.now c.loop-parent.parent-index c.parent-item.result c.loop-parent-test.true c.parent-item.is
    (sym (there.ok w (told_later _ _ w so_far.untouched told) plain) ∙ nothing c.in_ok-table.table c.in_default.not-Some)))

pub loop-parent-preserved : goal.loop-parent-preserved
loop-parent-preserved g c =
    let so_far = c.loop-parent.invariant in
    let there = c.in_ok-table.ensures in
    record {
      untouched = and_then _ _ _ so_far.untouched there.untouched;
      told = λ w told plain.
          let here = so_far.told w told plain in
          let found = there.ok w (told_later _ _ w so_far.untouched told) plain in
          each_step (work_now w) c.args.parents.now c.loop-parent.parent-index c.parent-item.result c.loop-parent.tables c.in-Some.table (omega arith) c.parent-item.is here (sym found ∙ c.in-Some.is)
          ∙ ap Some (sym c.in_ok-push.ensures.ok);
    }

pub returns-in_err-table : goal.returns-in_err-table
returns-in_err-table g c =
    part_fails _ _ _ _ _ _ _ _ _ c.in_err-table.field-0.0 c.from_residual.result c.loop-parent.invariant.untouched c.in_err-table.ensures c.from_residual.ensures.1
    (λ w told plain. (plain, λ o is. is))

pub returns : goal.returns
returns g c =
    let so_far = c.loop-parent.invariant in
    answers _ _ _ _ _ _ so_far.untouched (λ w told plain.
    sym (ap (λ (l : List Work). each_there (map (work_now w) l)) (sym (take_all c.loop-parent.parent-index c.args.parents.now c.loop-parent-test.false)) ∙ so_far.told w told plain))
