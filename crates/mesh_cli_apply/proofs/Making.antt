-- What is answered once the changes of a plan were to be made.
use Rattle.std.proofs.Common.{◌≡◌, ◌⊎◌, inl, inr, ℕ, ℤ, true, false, List, length, ◌++◌, Ok, Err, Result, Some, None, sym, ◌∙◌, ap, subst}
use Rattle.std.specs.declared.option.Option.{Option}
use Rattle.mesh_base.specs.declared.forgets.Restate.{Restate}
use Rattle.mesh_base.specs.declared.snapshots.Env.{Env}
use Rattle.mesh_base.specs.declared.snapshots.Node.{Node}
use Rattle.mesh_base.specs.declared.rules.plans.Plan.{Plan}
use Rattle.mesh_house_book.specs.declared.book.Book.{Book}
use Rattle.mesh_house.specs.House.{Told}
use Rattle.mesh_house.specs.declared.world.Change.{Change}
use Rattle.mesh_house.specs.declared.world.World.{World}
use Rattle.mesh_layer.specs.Shows.{Tells}
use Rattle.mesh_spec_changes.specs.Commands.{Command, Apply, RunAll}
use Rattle.mesh_spec_changes.specs.Environments.{env_at}
use Rattle.mesh_plan.specs.Plans.{promised}
use Rattle.mesh_plan.specs.Running.{IsRunIn}
use Rattle.mesh_cli_print.specs.plans.PlanText.{plan_text}
use Rattle.mesh_cli_print.specs.printed.Reports.{applied_line, ran_line}
use Rattle.mesh_cli_print.specs.declared.printed.refusals.Refusal.{Refusal}
use Rattle.mesh_cli_print.specs.declared.printed.refusals.Refusal.TheVariants.{Warehouse, Memory, Input}
use Rattle.mesh_cli_answer.specs.Answers.{Answers, IsMade}
use Rattle.mesh_cli_answer.proofs.Answering.{answers_so, refused_first, same_refusal, whole_prefix}
use Rattle.mesh_cli_apply.specs.Applying.{ApplyGives, ApplyMakes, AreOf, GoesToItsEnd, IsApplied, IsHeld, IsRan, IsReady, RunGives, RunMakes}
use Rattle.mesh_cli_apply.specs.Made.{ApplyTells, HasBook, MakesBy, RunTells}
use Rattle.mesh_cli_apply.specs.Making.{IsWhole, MakesAll}
use Rattle.mesh_cli_apply.specs.Planning.{IsPlanned, IsRunPlanned, PlanRefused, RunRefused}
use Rattle.mesh_cli_apply.proofs.Refusing.{no_wanting, run_beyond, unplanned_beyond}

module _ {T : Type 0} (p : Plan) (k : Command) (b : Book) (gives : World → Result T Refusal → Type 0) (a c : Told) (has : HasBook b a) where
  -- its changes weren't all made
  pub stopped : (r : Refusal) → MakesAll p k b a c (Err r) → ((w : World) → IsHeld p w r → gives w (Err r)) → Answers ⊥ (MakesBy p k) gives a c (Err r)
  stopped r by so = record {
    faults = by.faults;
    failed = λ is. by.failed (ap (λ (x : Refusal). Err x) (same_refusal {T = T} r Warehouse is));
    beyond = λ is. by.inside (ap (λ (x : Refusal). Err x) (same_refusal {T = T} r Input is));
    early = λ early. by.early early;
    made = λ w told. parts w (by.made w told (has w told.world));
    given = λ w told fine. so w (by.given fine w told (has w told.world));
  }
    where
      parts : (w : World) → IsWhole p k w a c (Err r) → IsMade {T = T} (MakesBy p k w) w a c (Err r)
      parts w (inl alone) = inl alone
      parts w (inr is) = inr (is.1.0, (is.0, is.1.1), is.1.2)

  -- memory was wanting for the text once they were made
  pub untold : (n : ℕ) → MakesAll p k b a c (Ok n) → Answers ⊥ (MakesBy p k) gives a c (Err Memory)
  untold n by = record {
    faults = by.faults;
    failed = λ is. absurd (let clash : Memory ≡ Warehouse = same_refusal {T = T} Memory Warehouse is in cc);
    beyond = λ is. absurd (let clash : Memory ≡ Input = same_refusal {T = T} Memory Input is in cc);
    early = λ early. absurd (let clash : false ≡ true = early in cc);
    made = λ w told. let is = by.made w told (has w told.world) in inr (is.2.0, (is.0, is.2.1), whole_prefix is.2.0 w a.calls c is.2.2);
    given = λ w told fine. absurd (let clash : true ≡ false = fine in cc);
  }

  -- all of them were made, and this is told
  pub whole : (n : ℕ) (x : T) → MakesAll p k b a c (Ok n) → ((w : World) → IsReady p w → GoesToItsEnd p w → (list : List Change) → AreOf p.moment k w list → n ≡ length list → gives w (Ok x)) → Answers ⊥ (MakesBy p k) gives a c (Ok x)
  whole n x by so = record {
    faults = by.faults;
    failed = λ is. absurd (cc);
    beyond = λ is. absurd (cc);
    early = tt;
    made = λ w told. let is = by.made w told (has w told.world) in (is.2.0, (is.0, is.2.1), is.2.2);
    given = λ w told. let is = by.made w told (has w told.world) in so w is.0 is.1 is.2.0 is.2.1 is.2.3;
  }

module _ (p : Plan) (b : Book) (a c : Told) (has : HasBook b a) (n : ℕ) (text : List ℕ) where
  -- an apply's text
  pub applied : MakesAll p (Apply (promised p)) b a c (Ok n) → text ≡ plan_text p ++ applied_line p.env n → Answers ⊥ (MakesBy p (Apply (promised p))) (ApplyTells p) a c (Ok text)
  applied by is = whole p (Apply (promised p)) b (ApplyTells p) a c has n text by
      (λ w ready end list made e. record { ready = ready; whole = end; list = list; made = made; is = is ∙ ap (λ (k : ℕ). plan_text p ++ applied_line p.env k) e })

  -- a run's text
  pub ran : MakesAll p (RunAll (promised p)) b a c (Ok n) → text ≡ plan_text p ++ ran_line p.env n → Answers ⊥ (MakesBy p (RunAll (promised p))) (RunTells p) a c (Ok text)
  ran by is = whole p (RunAll (promised p)) b (RunTells p) a c has n text by
      (λ w ready end list made e. record { ready = ready; whole = end; list = list; made = made; is = is ∙ ap (λ (k : ℕ). plan_text p ++ ran_line p.env k) e })

-- by a book that was read: why nothing is planned, and what is made and answered of a plan
module _ (b : Book) (nodes : List Node) (env : List ℕ) (t : ℤ) (again : Option Restate) (a : Told) (has : HasBook b a) where
  pub unplanned : (r : Refusal) → (r ≡ Memory) ⊎ PlanRefused b nodes env t again r → Answers ⊥ (ApplyMakes nodes env t again) (ApplyGives nodes env t again) a a (Err r)
  unplanned r why = refused_first (ApplyMakes nodes env t again) (ApplyGives nodes env t again) a r (unplanned_beyond b nodes env t again r why)
      (λ w told fine. inl (subst (λ (k : Book). PlanRefused k nodes env t again r) (sym (has w told.world)) (no_wanting r fine why)))

  module _ (p : Plan) (planned : IsPlanned b nodes env t again p) (c : Told) where
    here : (w : World) → Tells a w → IsPlanned w.book nodes env t again p
    here w told = subst (λ (k : Book). IsPlanned k nodes env t again p) (sym (has w told.world)) planned

    gives : (w : World) → Tells a w → (r : Result (List ℕ) Refusal) → ApplyTells p w r → ApplyGives nodes env t again w r
    gives w told (Ok text) is = (p, here w told, subst (λ (e : List ℕ). IsApplied p e t w text) planned.plan.env_is (subst (λ (m : ℤ). IsApplied p p.env m w text) planned.plan.moment_is is))
    gives w told (Err r) is = inr (p, here w told, is)

    pub planned_applied : (r : Result (List ℕ) Refusal) → Answers ⊥ (MakesBy p (Apply (promised p))) (ApplyTells p) a c r → Answers ⊥ (ApplyMakes nodes env t again) (ApplyGives nodes env t again) a c r
    planned_applied r by = answers_so (MakesBy p (Apply (promised p))) (ApplyMakes nodes env t again) (ApplyTells p) (ApplyGives nodes env t again) a c
        (λ w told list is. (p, here w told, is.0, subst (λ (m : ℤ). AreOf m (Apply (promised p)) w list) planned.plan.moment_is is.1)) gives r by

-- a run's plan is for its environment and at its moment
run_env : (b : Book) (env : List ℕ) (e : Option Env) (t : ℤ) (p : Plan) → IsRunIn b env e t p → p.env ≡ env
run_env b env None t p is = absurd is
run_env b env (Some e) t p is = is.env_is

run_moment : (b : Book) (env : List ℕ) (e : Option Env) (t : ℤ) (p : Plan) → IsRunIn b env e t p → p.moment ≡ t
run_moment b env None t p is = absurd is
run_moment b env (Some e) t p is = is.moment_is

-- the same of a run
module _ (b : Book) (env : List ℕ) (t : ℤ) (a : Told) (has : HasBook b a) where
  pub run_unplanned : (r : Refusal) → (r ≡ Memory) ⊎ RunRefused b env t r → Answers ⊥ (RunMakes env t) (RunGives env t) a a (Err r)
  run_unplanned r why = refused_first (RunMakes env t) (RunGives env t) a r (run_beyond b env t r why)
      (λ w told fine. inl (subst (λ (k : Book). RunRefused k env t r) (sym (has w told.world)) (no_wanting r fine why)))

  module _ (p : Plan) (planned : IsRunPlanned b env t p) (c : Told) where
    run_here : (w : World) → Tells a w → IsRunPlanned w.book env t p
    run_here w told = subst (λ (k : Book). IsRunPlanned k env t p) (sym (has w told.world)) planned

    run_gives : (w : World) → Tells a w → (r : Result (List ℕ) Refusal) → RunTells p w r → RunGives env t w r
    run_gives w told (Ok text) is = (
      p,
      run_here w told,
      subst (λ (e : List ℕ). IsRan p e t w text) (run_env b env (env_at b env) t p planned.plan)
          (subst (λ (m : ℤ). IsRan p p.env m w text) (run_moment b env (env_at b env) t p planned.plan) is),
    )
    run_gives w told (Err r) is = inr (p, run_here w told, is)

    pub planned_ran : (r : Result (List ℕ) Refusal) → Answers ⊥ (MakesBy p (RunAll (promised p))) (RunTells p) a c r → Answers ⊥ (RunMakes env t) (RunGives env t) a c r
    planned_ran r by = answers_so (MakesBy p (RunAll (promised p))) (RunMakes env t) (RunTells p) (RunGives env t) a c
        (λ w told list is. (p, run_here w told, is.0, subst (λ (m : ℤ). AreOf m (RunAll (promised p)) w list) (run_moment b env (env_at b env) t p planned.plan) is.1)) run_gives r by
