use Rattle.std.proofs.Common.{◌∙◌, ap, w64, rules, get_or, pos, List}
use Rattle.std.specs.Prelude.{FitsSigned}
use Rattle.std.proofs.lemmas.Int.{to_z-of_z}
use Rattle.std.proofs.lemmas.List.{take_rest}
use Rattle.mesh_base_values.specs.declared.times.Bounds.{Bounds}
use Rattle.mesh_base_values.proofs.Tests.{lt_says}
use Rattle.mesh_time.specs.Edits.{spans_without_each}
use Rattle.mesh_time.proofs.Apart.{lt_not}
use Rattle.mesh_time.proofs.Without.{beyond, goes_on, rest_goes_on, order_goes_on}
use Rattle.mesh_time.proofs.cuts.cut.Goals as goal

abbrev none : Bounds
none = record { start = pos 0; end = pos 0 }

pub returns-then-span-other-clause-made : goal.returns-then-span-other-clause-made
returns-then-span-other-clause-made c =
    let starts : FitsSigned w64 (get_or c.args.gone.now c.loop-i.i none).start = search rules in
    let ends : FitsSigned w64 (get_or c.args.gone.now c.loop-i.i none).end = search rules in
    let end_fits : FitsSigned w64 c.args.span.now.end = search rules in
    let mid_fits : FitsSigned w64 c.min.result = search rules in
    let pushed = simp to_z-of_z at c.in_ok-push_filled.ensures in
    let over = simp to_z-of_z at c.if-span-other.true in
    let mid_is = simp to_z-of_z at c.min.ensures.value in
    beyond c.loop-i.made c.args.made.now c.push_filled.new.made c.args.gone.now c.loop-i.i none c.args.span.now _ c.loop-i-test.true c.loop-i.invariant.order _ (lt_says _ _ over) c.loop-i.invariant.made mid_is pushed c.requires.some

pub returns-then-span-other-clause-rest : goal.returns-then-span-other-clause-rest
returns-then-span-other-clause-rest c = λ later apart. ap (λ (l : List Bounds). spans_without_each l later) (take_rest c.args.gone.now c.loop-i.i) ∙ c.loop-i.invariant.rest later apart

pub loop-i-preserved : goal.loop-i-preserved
loop-i-preserved c =
    let starts : FitsSigned w64 (get_or c.args.gone.now c.loop-i.i none).start = search rules in
    let ends : FitsSigned w64 (get_or c.args.gone.now c.loop-i.i none).end = search rules in
    let end_fits : FitsSigned w64 c.args.span.now.end = search rules in
    let pushed = simp to_z-of_z at c.in_ok-push_filled-2.ensures in
    let below = simp to_z-of_z at c.if-span-other.false in
    let next_is = simp to_z-of_z at c.max-low.ensures.value in
    let next_fits : FitsSigned w64 c.max-low.result = search rules in
    record {
      made = simp to_z-of_z (goes_on c.loop-i.made c.args.made.now c.push_filled-in-loop-i.new.made c.args.gone.now c.loop-i.i none c.args.span.now _ c.loop-i-test.true c.loop-i.invariant.order c.max-low.result (lt_not _ _ below) c.loop-i.invariant.made next_is pushed);
      rest = λ later apart. rest_goes_on c.loop-i.made c.args.made.now c.loop-i.made c.args.gone.now c.loop-i.i none c.args.span.now (pos 0) c.loop-i-test.true c.loop-i.invariant.order later (lt_not _ _ below) apart (c.loop-i.invariant.rest later apart);
      order = order_goes_on c.loop-i.made c.args.made.now c.loop-i.made c.args.gone.now c.loop-i.i none c.args.span.now (pos 0) c.loop-i-test.true c.loop-i.invariant.order;
    }
