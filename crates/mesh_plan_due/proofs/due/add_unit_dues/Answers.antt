use Rattle.std.proofs.Common.{rules, w64, ◌≡◌, FitsSigned, not, ◌||◌, sym, ◌∙◌}
use Rattle.std.specs.BTreeSet.{contains}
use Rattle.std.proofs.lemmas.Int.{to_z-of_z}
use Rattle.mesh_base_values.specs.declared.times.Bounds.{Bounds}
use Rattle.mesh_time.specs.Ranges.{unit_at}
use Rattle.mesh_time.proofs.Missing.{rest_goes_on, held_by_rest}
use Rattle.mesh_plan_due.specs.Sets.{part_cmp}
use Rattle.mesh_plan_due.specs.Whole.{is_due, unit_due}
use Rattle.mesh_plan_due.proofs.Walk.{passed_more}
use Rattle.mesh_plan_due.proofs.due.add_unit_dues.Goals as goal

pub loop-number-preserved : goal.loop-number-preserved
loop-number-preserved c =
    let start_fits : FitsSigned w64 c.unit_at-unit.result.start = search rules in
    let end_fits : FitsSigned w64 c.unit_at-unit.result.end = search rules in
    let next = simp to_z-of_z at c.open_after-rest.ensures in
    let front = simp to_z-of_z at c.front_covers-held.ensures in
    let held = held_by_rest c.args.spans.now _ _ c.args.schedule.now c.loop-number.number _ _ c.requires.apart c.unit_at-unit.ensures next c.loop-number.invariant.rest front in
    let due : c.is_due-due.result ≡ is_due c.args.spans.now (λ (u : Bounds). contains part_cmp c.args.again.now (u.start, u.end, c.args.object.now)) (unit_at c.args.schedule.now c.loop-number.number) =
    c.is_due-due.ensures.due
    ∙ (λ j. not (sym held j) || contains part_cmp c.args.again.now ((c.unit_at-unit.ensures j).start, (c.unit_at-unit.ensures j).end, c.loop-number.invariant.key j)) in
    record {
      made = c.in_ok-push_unit.ensures ∙ passed_more (unit_due c.args.place) _ c.args.schedule.now c.loop-number.number _ _ _ _ c.loop-number.invariant.made c.unit_at-unit.ensures due;
      rest = rest_goes_on c.args.spans.now _ _ c.args.schedule.now c.loop-number.number _ c.unit_at-unit.ensures next c.loop-number.invariant.rest;
      key = c.is_due-due.ensures.object ∙ c.loop-number.invariant.key;
    }
