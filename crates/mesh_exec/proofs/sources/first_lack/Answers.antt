use Rattle.std.proofs.Common.{◌≡◌, ℕ, suc, ◌+◌, ◌<◌, true, false, List, ◌∷◌, length, map, drop, get_or, drop-cons, add-one, Some, None, refl, sym, ap, ◌∙◌, arith}
use Rattle.std.specs.Option.{is_some, option_or}
use Rattle.std.specs.declared.option.Option.{Option}
use Rattle.mesh_base.specs.declared.jobs.Input.{Input}
use Rattle.mesh_layer.proofs.Finding.{and_then, answers, part_fails, told_later}
use Rattle.mesh_exec_works.specs.declared.works.Work.{Work}
use Rattle.mesh_exec_works.specs.Works.{part_of}
use Rattle.mesh_exec.specs.Sources.{first_lack, part_lack}
use Rattle.mesh_exec.proofs.sources.first_lack.Goals as goal

none_of : {A : Type 0} (o : Option A) → is_some o ≡ false → o ≡ None
none_of None h = refl
none_of (Some x) h = absurd (cc)

some_of : {A : Type 0} (o rest : Option A) → is_some o ≡ true → option_or o rest ≡ o
some_of None rest h = absurd (cc)
some_of (Some x) rest h = refl

-- what a model lacks comes before what later ones lack
lacks_on : (sources : List Input) (works : List Work) (i : ℕ) (work : Work) → i < length works → work ≡ get_or works i work
    → first_lack sources (map part_of (drop i works)) ≡ option_or (part_lack sources (part_of work)) (first_lack sources (map part_of (drop (i + 1) works)))
lacks_on sources works i work lt here =
    ap (λ l. first_lack sources (map part_of l)) (drop-cons works i work lt ∙ (λ k. sym here k ∷ drop (suc i) works))
    ∙ ap (λ n. option_or (part_lack sources (part_of work)) (first_lack sources (map part_of (drop n works)))) (sym (add-one i))

pub returns-in_err-lack : goal.returns-in_err-lack
returns-in_err-lack g c =
    part_fails _ _ _ _ _ _ _ _ _ c.in_err-lack.field-0.0 c.from_residual.result c.loop-work.invariant.untouched c.in_err-lack.ensures c.from_residual.ensures.1
    (λ w told plain. (plain, λ o is. is))

pub returns-then-is_some : goal.returns-then-is_some
returns-then-is_some g c =
    let so_far = c.loop-work.invariant in
    let there = c.in_ok-lack.ensures in
    answers _ _ _ _ _ _ (and_then _ _ _ so_far.untouched there.untouched) (λ w told plain.
    let later = first_lack w.sources (map part_of (drop (c.loop-work.work-index + 1) c.args.works.now)) in
    sym (
    so_far.told w told plain
    ∙ lacks_on w.sources c.args.works.now c.loop-work.work-index c.work-item.result (omega arith) c.work-item.is
    ∙ ap (λ o. option_or o later) (sym (there.ok w (told_later _ _ w so_far.untouched told) plain))
    ∙ some_of c.in_ok-lack.lack later (sym c.is_some.ensures ∙ c.if-is_some.true)
    ))

pub loop-work-preserved : goal.loop-work-preserved
loop-work-preserved g c =
    let so_far = c.loop-work.invariant in
    let there = c.in_ok-lack.ensures in
    record {
      untouched = and_then _ _ _ so_far.untouched there.untouched;
      told = λ w told plain.
          so_far.told w told plain
          ∙ lacks_on w.sources c.args.works.now c.loop-work.work-index c.work-item.result (omega arith) c.work-item.is
          ∙ ap (λ o. option_or o (first_lack w.sources (map part_of (drop (c.loop-work.work-index + 1) c.args.works.now))))
          (sym (there.ok w (told_later _ _ w so_far.untouched told) plain) ∙ none_of c.in_ok-lack.lack (sym c.is_some.ensures ∙ c.if-is_some.false));
    }
