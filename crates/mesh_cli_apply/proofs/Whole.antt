-- What is left of a house once a plan's changes were to be made, by what the calls for them left.
use Rattle.std.proofs.Common.{◌≡◌, ℕ, inl, inr, List, [], ◌++◌, length, Ok, Err, Result, refl, sym, ap, ◌∙◌, subst, arith, length-append}
use Rattle.std.specs.Prelude.{◌⊎◌}
use Rattle.std.proofs.lemmas.List.{append-nil}
use Rattle.mesh_base_values.specs.declared.values.Name.{Name}
use Rattle.mesh_base.specs.declared.jobs.Done.{Done}
use Rattle.mesh_base.specs.declared.rules.plans.Plan.{Plan}
use Rattle.mesh_house_book.specs.declared.book.Book.{Book}
use Rattle.mesh_house.specs.declared.house.WhFail.{WhFail}
use Rattle.mesh_house.specs.declared.house.WhFail.TheVariants as fails
use Rattle.mesh_house.specs.declared.world.Change.{Change}
use Rattle.mesh_house.specs.declared.world.World.{World}
use Rattle.mesh_house.specs.House.{Told}
use Rattle.mesh_house.specs.Runs.{IsPrefixRun, Makes, Ran}
use Rattle.mesh_house.specs.Step.{run}
use Rattle.mesh_layer.specs.Shows.{Tells}
use Rattle.mesh_spec_changes.specs.Commands.{Command}
use Rattle.mesh_exec.specs.declared.faults.ExecFault.{ExecFault}
use Rattle.mesh_exec.specs.declared.faults.ExecFault.TheVariants as fault
use Rattle.mesh_exec.specs.Answers.{Executes, IsCut}
use Rattle.mesh_exec.specs.Executed.{executed, outline}
use Rattle.mesh_exec.proofs.Stepping.{prefix_more, prefix_then, run_then, whole_prefix}
use Rattle.mesh_cli_print.specs.declared.printed.refusals.Refusal.{Refusal}
use Rattle.mesh_cli_print.specs.declared.printed.refusals.Refusal.TheVariants.{Warehouse, Memory}
use Rattle.mesh_cli_answer.specs.Answers.{as_refusal}
use Rattle.mesh_cli_apply.specs.Applying.{AreOf, IsStopped, of_exec}
use Rattle.mesh_cli_apply.specs.Making.{IsWhole, MakesAll, Promotes}

module _ (p : Plan) (c : Command) (b : Book) where
  -- memory was wanting before anything was done
  pub wanting : (a : Told) → MakesAll p c b a a (Err Memory)
  wanting a = record {
    faults = omega arith;
    failed = λ is. absurd (cc);
    inside = λ is. absurd (cc);
    early = λ is. absurd (cc);
    made = λ w t e. inl (record { world = refl; calls = refl });
    given = λ is. absurd (cc);
  }

  -- the plan's own changes stopped
  module _ (a z : Told) (behind : World → List Change) (of : (w : World) → w.book ≡ b → AreOf p.moment c w (executed p w ++ behind w)) where
    cut_is : (w : World) → w.book ≡ b → (r : Refusal) → IsCut p w a z → IsWhole p c w a z (Err r)
    cut_is w e r (inl un) = inl (record { world = un.0; calls = un.1 })
    cut_is w e r (inr (ready, cut)) = inr (ready, (executed p w ++ behind w, of w e, prefix_more (executed p w) (behind w) w a.calls z cut))

    stop_at : (object : Name) → Executes p a z (Err (fault.Dangling object)) → (w : World) → Tells a w → IsStopped p w (of_exec (fault.Dangling object))
    stop_at object h w t = at (h.err w t)
      where
        at : IsCut p w a z → IsStopped p w (of_exec (fault.Dangling object))
        at (inl un) =
            let (ready, lost) = h.dangling object refl w t in
            record { whole = ready; object = object; told = refl; made = []; rest = executed p w; front = refl; lost = lost w (un.0 ∙ t.world) }
        at (inr (ready, cut)) =
            let (whole, lost) = h.dangling object refl w t in
            record { whole = whole; object = object; told = refl; made = cut.made; rest = cut.rest; front = cut.parts; lost = lost (run w cut.made) cut.world }

    as_told : (f : ExecFault) → Executes p a z (Err f) → MakesAll p c b a z (Err (of_exec f))
    as_told (fault.Dangling object) h = record {
      faults = h.faults;
      failed = λ is. absurd (cc);
      inside = λ is. absurd (cc);
      early = λ is. absurd (cc);
      made = λ w t e. cut_is w e (of_exec (fault.Dangling object)) (h.err w t);
      given = λ is w t e. inr (stop_at object h w t);
    }
    as_told (fault.Model name kind) h = record {
      faults = h.faults;
      failed = λ is. absurd (cc);
      inside = λ is. absurd (cc);
      early = λ is. let un = h.unmade name kind refl in record { world = un.0; calls = un.1 };
      made = λ w t e. cut_is w e (of_exec (fault.Model name kind)) (h.err w t);
      given = λ is w t e. inl (record { lack = record { model = name; kind = kind }; first = h.lacking name kind refl w t; told = refl });
    }
    as_told fault.Warehouse h = record {
      faults = h.faults;
      failed = λ is. h.failed refl;
      inside = λ is. absurd (cc);
      early = λ is. absurd (cc);
      made = λ w t e. cut_is w e Warehouse (h.err w t);
      given = λ is. absurd (cc);
    }
    as_told fault.Memory h = record {
      faults = h.faults;
      failed = λ is. absurd (cc);
      inside = λ is. absurd (cc);
      early = λ is. absurd (cc);
      made = λ w t e. cut_is w e Memory (h.err w t);
      given = λ is. absurd (cc);
    }

    unsaid : (f : ExecFault) → Executes p a z (Err f) → MakesAll p c b a z (Err Memory)
    unsaid f h = record {
      faults = h.faults;
      failed = λ is. absurd (cc);
      inside = λ is. absurd (cc);
      early = λ is. absurd (cc);
      made = λ w t e. cut_is w e Memory (h.err w t);
      given = λ is. absurd (cc);
    }

    pub stopped : (f : ExecFault) (r : Refusal) → (r ≡ Memory) ⊎ (r ≡ of_exec f) → Executes p a z (Err f) → MakesAll p c b a z (Err r)
    stopped f r (inl memory) h = subst (λ (x : Refusal). MakesAll p c b a z (Err x)) (sym memory) (unsaid f h)
    stopped f r (inr is) h = subst (λ (x : Refusal). MakesAll p c b a z (Err x)) (sym is) (as_told f h)

  -- the plan's own changes are all there are
  pub ran : (a z : Told) (done : Done) → ((w : World) → w.book ≡ b → AreOf p.moment c w (executed p w)) → Executes p a z (Ok done) → MakesAll p c b a z (Ok done.changes)
  ran a z done of h = record {
    faults = h.faults;
    failed = λ is. absurd (cc);
    inside = λ is. absurd (cc);
    early = tt;
    made = λ w t e. let (ready, made, long) = h.ok w t in (ready, long, (executed p w, of w e, made, ap (λ (d : Done). d.changes) h.number ∙ sym long));
    given = tt;
  }

  -- a list comes behind them
  module _ (a m z : Told) (done : Done) (list : List Change) (of : (w : World) → w.book ≡ b → length (executed p w) ≡ length (outline p) → AreOf p.moment c w (executed p w ++ list)) (h : Executes p a m (Ok done)) where
    all_cut : (w : World) → Tells a w → w.book ≡ b → (r : Refusal) → Ran (λ v. list) m z → IsWhole p c w a z (Err r)
    all_cut w t e r q =
        let (ready, made, long) = h.ok w t in
        let whole = run_then (executed p w) list w a.calls m z made (q.told (run w (executed p w)) made.world) in
        inr (
          ready,
          (executed p w ++ list, of w e long, subst (λ (l : List Change). IsPrefixRun l w a.calls z) (append-nil (executed p w ++ list)) (whole_prefix (executed p w ++ list) [] w a.calls z whole)),
        )

    part_cut : (w : World) → Tells a w → w.book ≡ b → (r : Refusal) (e : WhFail) → Makes {T = ℕ} (λ v. list) m z (Err e) → IsWhole p c w a z (Err r)
    part_cut w t same r e q =
        let (ready, made, long) = h.ok w t in
        let cut = prefix_then (executed p w) list [] w a.calls m z made (q.err.told (run w (executed p w)) made.world) in
        inr (
          ready,
          (executed p w ++ list, of w same long, subst (λ (l : List Change). IsPrefixRun (executed p w ++ l) w a.calls z) (append-nil list) cut),
        )

    failed_then : (e : WhFail) → Makes {T = ℕ} (λ w. list) m z (Err e) → MakesAll p c b a z (Err (as_refusal e))
    failed_then fails.Failed q = record {
      faults = omega (arith, h.faults, q.err.faults);
      failed = λ is. let rose = q.failed refl in omega (arith, rose, h.faults);
      inside = λ is. absurd (cc);
      early = λ is. absurd (cc);
      made = λ w t e. part_cut w t e Warehouse fails.Failed q;
      given = λ is. absurd (cc);
    }
    failed_then fails.Memory q = record {
      faults = omega (arith, h.faults, q.err.faults);
      failed = λ is. absurd (cc);
      inside = λ is. absurd (cc);
      early = λ is. absurd (cc);
      made = λ w t e. part_cut w t e Memory fails.Memory q;
      given = λ is. absurd (cc);
    }

    uncounted : Ran (λ w. list) m z → MakesAll p c b a z (Err Memory)
    uncounted q = record {
      faults = omega (arith, h.faults, q.faults);
      failed = λ is. absurd (cc);
      inside = λ is. absurd (cc);
      early = λ is. absurd (cc);
      made = λ w t e. all_cut w t e Memory q;
      given = λ is. absurd (cc);
    }

    pub with_promotion : (r : Result ℕ Refusal) → Promotes list done.changes m z r → MakesAll p c b a z r
    with_promotion (Ok n) (q, number) = record {
      faults = omega (arith, h.faults, q.faults);
      failed = λ is. absurd (cc);
      inside = λ is. absurd (cc);
      early = tt;
      made = λ w t e.
          let (ready, made, long) = h.ok w t in
          let own : done.changes ≡ length (outline p) = ap (λ (d : Done). d.changes) h.number in (
            ready,
            long,
            (
              executed p w ++ list,
              of w e long,
              run_then (executed p w) list w a.calls m z made (q.told (run w (executed p w)) made.world),
              omega (arith, number, own, long, length-append (executed p w) list),
            ),
          );
      given = tt;
    }
    with_promotion (Err r) (inl (e, is, q)) = subst (λ (x : Refusal). MakesAll p c b a z (Err x)) (sym is) (failed_then e q)
    with_promotion (Err r) (inr (is, q)) = subst (λ (x : Refusal). MakesAll p c b a z (Err x)) (sym is) (uncounted q)
