use Rattle.std.proofs.Common.{◌≤◌, ◌<◌, ◌∙◌, ap, subst, sym, IsTrue, Ok}
use Rattle.std.proofs.lemmas.Bool.{lt-ltb, le-ltb}
use Rattle.mesh_base_values.specs.Crons.{is_cron}
use Rattle.mesh_time.specs.CronText.{sets_of}
use Rattle.mesh_time.proofs.MadeCron.{all_well, cron_made, matching_is, never_is, no_tick, sets_made, too_fine}
use Rattle.mesh_time.proofs.crontab.read_sets.Goals as goal

pub returns-then-matching-gt1 : goal.returns-then-matching-gt1
returns-then-matching-gt1 c =
    let matching = matching_is c.args.minute.now _ _ c.values-minutes.ensures.value c.count-matching.ensures.value in
    sym (too_fine (sets_of c.args.minute.now c.args.hour.now c.args.dom.now c.args.month.now c.args.dow.now) (lt-ltb _ _ (subst (λ n. 1 < n) matching c.if-matching-gt1.true)))

pub returns-then-never : goal.returns-then-never
returns-then-never c =
    let matching = matching_is c.args.minute.now _ _ c.values-minutes.ensures.value c.count-matching.ensures.value in
    let never = never_is c.args.dom.now c.args.month.now c.args.dow.now _ _ _ _ c.is_star-dow_star.ensures c.values-months.ensures.value c.values-days.ensures.value c.never_comes-never.ensures in
    sym (no_tick (sets_of c.args.minute.now c.args.hour.now c.args.dom.now c.args.month.now c.args.dow.now) (le-ltb _ _ (subst (λ n. n ≤ 1) matching c.if-matching-gt1.false)) (sym never ∙ c.if-never.true))

pub invariant_of-result : goal.invariant_of-result
invariant_of-result c =
    let matching = matching_is c.args.minute.now _ _ c.values-minutes.ensures.value c.count-matching.ensures.value in
    let never = never_is c.args.dom.now c.args.month.now c.args.dow.now _ _ _ _ c.is_star-dow_star.ensures c.values-months.ensures.value c.values-days.ensures.value c.never_comes-never.ensures in
    let same = sets_made c.args.minute.now c.args.hour.now c.args.dom.now c.args.month.now c.args.dow.now _ _ _ _ _ _ _ c.values-minutes.ensures.value c.values-hours.ensures.value c.values-days.ensures.value c.values-months.ensures.value c.days_of_week-week.ensures.value c.is_star-dom_star.ensures c.is_star-dow_star.ensures in
    subst (λ s. IsTrue (is_cron s)) (sym same)
    (cron_made c.args.minute.now c.args.hour.now c.args.dom.now c.args.month.now c.args.dow.now c.requires.minute c.requires.hour c.requires.dom c.requires.month c.requires.dow (le-ltb _ _ (subst (λ n. n ≤ 1) matching c.if-matching-gt1.false)) (sym never ∙ c.if-never.false))

pub returns : goal.returns
returns c =
    let matching = matching_is c.args.minute.now _ _ c.values-minutes.ensures.value c.count-matching.ensures.value in
    let never = never_is c.args.dom.now c.args.month.now c.args.dow.now _ _ _ _ c.is_star-dow_star.ensures c.values-months.ensures.value c.values-days.ensures.value c.never_comes-never.ensures in
    let same = sets_made c.args.minute.now c.args.hour.now c.args.dom.now c.args.month.now c.args.dow.now _ _ _ _ _ _ _ c.values-minutes.ensures.value c.values-hours.ensures.value c.values-days.ensures.value c.values-months.ensures.value c.days_of_week-week.ensures.value c.is_star-dom_star.ensures c.is_star-dow_star.ensures in
    ap Ok same ∙ sym (all_well (sets_of c.args.minute.now c.args.hour.now c.args.dom.now c.args.month.now c.args.dow.now) (le-ltb _ _ (subst (λ n. n ≤ 1) matching c.if-matching-gt1.false)) (sym never ∙ c.if-never.false))
