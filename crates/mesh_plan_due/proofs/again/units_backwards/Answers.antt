use Rattle.std.proofs.Common.{◌≡◌, ◌+◌, ◌-◌, ◌<◌, ◌∷◌, [], ◌++◌, ℕ, List, nat_lt, length, drop, get_or, ap, sym, ◌∙◌, refl, arith, reverse}
use Rattle.mesh_base_values.specs.declared.times.Bounds.{Bounds}
use Rattle.mesh_time.specs.Ranges.{unit_at, unit_count, units}
use Rattle.mesh_plan_due.specs.declared.stands.Stand.{Stand}
use Rattle.mesh_plan_due.specs.declared.stands.Stand.TheVariants.{Lacking}
use Rattle.mesh_plan_due.specs.Stands.{again_in, clear_before, clear_of, is_again}
use Rattle.mesh_plan_due.proofs.Near.{clear_behind, clear_here, none_again, nothing_behind, one_again}
use Rattle.mesh_plan_due.proofs.Units.{unit_there, units_counted}
use Rattle.mesh_plan_due.proofs.again.units_backwards.Goals.{then-is_again+in_ok-push, else-is_again}
use Rattle.mesh_plan_due.proofs.again.units_backwards.Goals as goal

pub loop-back-init : goal.loop-back-init
loop-back-init c = record {
  made = ap reverse c.new-made.ensures.items ∙ sym (nothing_behind c.args.lookback _ c.args.stands.now (length c.args.stands.now - 0) (omega arith));
  clear = clear_behind c.args.lookback c.args.stands.now (length c.args.stands.now - 0) (omega arith);
  bound = omega arith;
}

pub loop-back-preserved : goal.loop-back-preserved
loop-back-preserved c =
    let ss : List Stand = c.args.stands.now in
    let us : List Bounds = units c.args.schedule.now in
    let n : ℕ = c.args.lookback in
    let k : ℕ = length c.args.stands.now - (c.loop-back.back + 1) in
    let next : length c.args.stands.now - c.loop-back.back ≡ k + 1 = omega arith in
    let here : length c.args.stands.now - 1 - c.loop-back.back ≡ k = omega arith in
    let in_stands : k < length ss = omega arith in
    let counted : k < unit_count c.args.schedule.now = omega (arith, c.requires.each) in
    let in_units : k < length us = omega (arith, counted, units_counted c.args.schedule.now) in
    let s : Stand = get_or ss k Lacking in
    let u : Bounds = unit_at c.args.schedule.now k in
    let unit : get_or us k u ≡ u = unit_there c.args.schedule.now k u counted in
    let was : reverse c.loop-back.made.items ≡ again_in n (drop (k + 1) us) (drop (k + 1) ss) = c.loop-back.invariant.made ∙ ap (λ j. again_in n (drop j us) (drop j ss)) next in
    let cleared : c.loop-back.clear ≡ clear_of n (drop (k + 1) ss) = c.loop-back.invariant.clear ∙ ap (λ j. clear_of n (drop j ss)) next in
    let flag : c.is_again.result ≡ is_again (nat_lt c.loop-back.clear n) s = c.is_again.ensures ∙ ap (λ j. is_again (nat_lt c.loop-back.clear n) (get_or ss j Lacking)) here in
    record {
      made =
          elim c.if-is_again.branch [
            | then-is_again+in_ok-push w ↦
                (ap reverse (ap (λ v. v.items) w.made-is ∙ w.in_ok-push.ensures.items ∙ ap (λ x. c.loop-back.made.items ++ x ∷ []) (w.unit_at.ensures ∙ ap (unit_at c.args.schedule.now) here))
                ∙ one_again n us ss k u u s Lacking in_units in_stands unit refl c.loop-back.made.items was c.loop-back.clear cleared (sym flag ∙ w.if-is_again.true))
            | else-is_again w ↦
                (ap (λ v. reverse v.items) w.made-is
                ∙ none_again n us ss k u u s Lacking in_units in_stands unit refl c.loop-back.made.items was c.loop-back.clear cleared (sym flag ∙ w.if-is_again.false))
          ];
      clear = c.clear_before-clear.ensures.value ∙ ap (λ j. clear_before n (get_or ss j Lacking) c.loop-back.clear) here ∙ clear_here n us ss k u u s Lacking in_units in_stands unit refl c.loop-back.clear cleared;
      bound = c.clear_before-clear.ensures.bound;
    }
