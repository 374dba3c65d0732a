use Rattle.std.proofs.Common.{rules, w64, ◌≡◌, ◌∷◌, [], FitsSigned, length, ap, sym, ◌∙◌, arith, length-append}
use Rattle.std.specs.Option.{option_copied}
use Rattle.std.proofs.lemmas.Int.{to_z-of_z}
use Rattle.mesh_time.specs.Ranges.{unit_at}
use Rattle.mesh_time.proofs.Missing.{rest_goes_on, held_by_rest}
use Rattle.mesh_spec_changes.specs.due.Dues.{touches_days}
use Rattle.mesh_plan_due.specs.Stands.{stand, stand_of}
use Rattle.mesh_plan_due.proofs.Walk.{walked_more}
use Rattle.mesh_plan_due.proofs.stands.stands_of.Goals as goal

pub loop-number-preserved : goal.loop-number-preserved
loop-number-preserved c =
    let start_fits : FitsSigned w64 c.unit_at-unit.result.start = search rules in
    let end_fits : FitsSigned w64 c.unit_at-unit.result.end = search rules in
    let next = simp to_z-of_z at c.open_after-rest.ensures in
    let front = simp to_z-of_z at c.front_covers-held.ensures in
    let held = held_by_rest c.args.spans.now _ _ c.args.schedule.now c.loop-number.number _ _ c.requires.apart c.unit_at-unit.ensures next c.loop-number.invariant.rest front in
    let touched = c.touches_days.ensures ∙ ap (touches_days (option_copied c.args.restate)) c.unit_at-unit.ensures in
    let stands : c.stand_of.result ≡ stand c.args.named (option_copied c.args.restate) c.args.spans.now (unit_at c.args.schedule.now c.loop-number.number) = c.stand_of.ensures ∙ (λ j. stand_of (sym held j) c.args.named (touched j)) in
    record {
      made = c.in_ok-push.ensures.items ∙ walked_more (stand c.args.named (option_copied c.args.restate) c.args.spans.now) c.args.schedule.now c.loop-number.number c.loop-number.made.items c.stand_of.result c.loop-number.invariant.made stands;
      long = ap length c.in_ok-push.ensures.items ∙ omega (arith, length-append c.loop-number.made.items (c.stand_of.result ∷ []), c.loop-number.invariant.long);
      rest = rest_goes_on c.args.spans.now _ _ c.args.schedule.now c.loop-number.number _ c.unit_at-unit.ensures next c.loop-number.invariant.rest;
    }
