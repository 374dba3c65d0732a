-- The calls that a command is made of keep a world sound at each exit, by themselves.
use Rattle.std.proofs.Common.{◌≡◌, ℕ, ℤ, Bool, true, cond, inl, inr, List, [], ◌∷◌, ◌++◌, map, OnErr, OnOk, Some, Ok, Err, Result, refl, sym, ap, ◌∙◌, subst}
use Rattle.std.proofs.lemmas.List.{append_assoc, append-nil}
use Rattle.std.specs.declared.option.Option.{Option}
use Rattle.mesh_base_values.specs.declared.values.Name.{Name}
use Rattle.mesh_base.specs.declared.forgets.Restate.{Restate}
use Rattle.mesh_base.specs.declared.snapshots.Node.{Node}
use Rattle.mesh_base.specs.declared.snapshots.Ref.{Ref}
use Rattle.mesh_base.specs.declared.rules.plans.Plan.{Plan as Made}
use Rattle.mesh_time_days.specs.Moments.{IsMoment}
use Rattle.mesh_house_book.specs.WellFormed.{is_moment}
use Rattle.mesh_spec_model.specs.Horizons.{Clock, Shows}
use Rattle.mesh_house.specs.House.{Told}
use Rattle.mesh_house.specs.Step.{run}
use Rattle.mesh_house.specs.declared.world.Change.{Change}
use Rattle.mesh_house.specs.declared.world.World.{World}
use Rattle.mesh_spec_changes.specs.Commands as promise
use Rattle.mesh_spec_changes.specs.Commands.{allows, changes}
use Rattle.mesh_spec_changes.specs.Environments.{env_at}
use Rattle.mesh_spec_changes.specs.due.Parts.{Parts}
use Rattle.mesh_layer.specs.Shows.{Tells}
use Rattle.mesh_spec_promise.specs.Histories.{IsMet}
use Rattle.mesh_law_promise.proofs.Promise.{stays_sound}
use Rattle.mesh_plan.specs.Plans.{promised}
use Rattle.mesh_exec.proofs.plans.Executable.{moment_is}
use Rattle.mesh_exec.specs.Answers.{Executes, IsCut}
use Rattle.mesh_exec.specs.Executed.{executed}
use Rattle.mesh_base.specs.declared.jobs.Done.{Done}
use Rattle.mesh_exec.specs.declared.faults.ExecFault.{ExecFault}
use Rattle.mesh_cli_apply.specs.Planning.{IsPlanned, IsRunPlanned}
use Rattle.mesh_cli_apply.proofs.Promised.{of_apply, of_run, rest}
use Rattle.std.specs.List.{filter}
use Rattle.mesh_base.specs.Keys.{ref_name}
use Rattle.mesh_base.specs.declared.snapshots.Env.{Env}
use Rattle.mesh_base.specs.rules.Proper.{is_proper}
use Rattle.mesh_house_book.specs.Changes.{previous_of}
use Rattle.mesh_house_book.specs.declared.book.Book.{Book}
use Rattle.mesh_house.specs.Runs.{Makes, Ran, Stopped}
use Rattle.mesh_house.specs.declared.house.WhFail.{WhFail}
use Rattle.mesh_house.specs.declared.world.Change.TheVariants.{Expire, Finalize, SetPending}
use Rattle.mesh_house.proofs.Runs.{run-append}
use Rattle.mesh_spec_changes.specs.Changes.{drops, expiry, names_by_order, objects_by_name, points, refs_by_name}
use Rattle.mesh_spec_changes.specs.Kept.{sweeps}
use Rattle.mesh_janitor.specs.declared.janitor.faults.Swept.{Swept}
use Rattle.mesh_janitor.specs.declared.janitor.faults.SweepFault.{SweepFault}
use Rattle.mesh_janitor.specs.janitor.Sweeping.{Sweeps}
use Rattle.mesh_janitor.specs.promote.Promotion.{is_absent, paired, promotion}
use Rattle.mesh_exec.specs.Planned.{planned_models}
use Rattle.mesh_cli_apply.proofs.Promised.{with_views}
use Rattle.mesh_cli.specs.promise.Stages.{IsBegun, IsUnderWay}
use Rattle.mesh_cli.proofs.promise.Asked.{apply_allowed, judged_apply, judged_run, run_allowed, run_of}

module _ (before after : Clock) (k : promise.Command) (x : Parts) (w : World) (begun : IsBegun before after k x w) (m : IsMet before after w k) where
  -- a front of its changes is made
  front_made : (list : List Change) → list ≡ changes after k w → (made rest : List Change) → list ≡ made ++ rest → (new : Told) → new.world ≡ Some (run w made) → IsUnderWay before after k x w new
  front_made list are made rest is new told = record { made = made; rest = rest; front = sym are ∙ is; told_is = told; sound = stays_sound x w k before after m begun.sound begun.settles made rest (sym are ∙ is) }

  -- or nothing is
  nothing_made : (old new : Told) → Tells old w → new.world ≡ old.world → IsUnderWay before after k x w new
  nothing_made old new told same = front_made (changes after k w) refl [] (changes after k w) refl new (same ∙ told.world)

  -- the changes of a plan, and what comes behind them
  executed_so : (p : Made) (behind : List Change) → executed p w ++ behind ≡ changes after k w → (old new : Told) (result : Result Done ExecFault) → Tells old w → Executes p old new result → IsUnderWay before after k x w new
  executed_so p behind are old new (Ok done) told is = front_made (executed p w ++ behind) are (executed p w) behind refl new (is.ok w told).1.world
  executed_so p behind are old new (Err fault) told is = go (is.err w told)
    where
      go : IsCut p w old new → IsUnderWay before after k x w new
      go (inl un) = nothing_made old new told un.0
      go (inr (ready, cut)) = front_made (executed p w ++ behind) are cut.made (cut.rest ++ behind) (ap (λ (l : List Change). l ++ behind) cut.parts ∙ append_assoc cut.made cut.rest behind) new cut.world

module _ (before after : Clock) (x : Parts) (w : World) (was : Shows before w.book.moment) (t : ℤ) (real : IsMoment t) (is : Shows after t) where
  pub apply_met : (nodes : List Node) (env : List ℕ) (again : Option Restate) (p : Made) → IsPlanned w.book nodes env t again p → IsMet before after w (promise.Apply (promised p))
  apply_met nodes env again p planned =
      record {
        was = was;
        is = subst (Shows after) (sym (judged_apply w p t planned.plan.moment_is (apply_allowed w nodes env t again p planned))) is;
        asked = record {
          nodes = nodes;
          restate = again;
          proper = planned.proper;
          moment = ap is_moment planned.plan.moment_is ∙ moment_is t real;
          planned = planned.plan.keeps after is;
        };
      }

  pub apply_executed : (nodes : List Node) (env : List ℕ) (again : Option Restate) (p : Made) → IsPlanned w.book nodes env t again p → IsBegun before after (promise.Apply (promised p)) x w
      → (old new : Told) (result : Result Done ExecFault) → Tells old w → Executes p old new result → IsUnderWay before after (promise.Apply (promised p)) x w new
  apply_executed nodes env again p planned begun old new result told made =
      executed_so before after (promise.Apply (promised p)) x w begun (apply_met nodes env again p planned) p (rest w.book p w)
      (of_apply w.book planned.present p nodes env t again planned.plan w refl after (subst (Shows after) (sym planned.plan.moment_is) is)) old new result told made

  pub run_met : (env : List ℕ) (p : Made) → IsRunPlanned w.book env t p → IsMet before after w (promise.RunAll (promised p))
  run_met env p planned =
      let (e, known, of) = run_of w.book env t p (env_at w.book env) refl planned.plan in
      record {
        was = was;
        is = subst (Shows after) (sym (judged_run w p t of.moment_is (run_allowed w env t p planned))) is;
        asked = (ap is_moment of.moment_is ∙ moment_is t real, of.keeps after is);
      }

  pub run_executed : (env : List ℕ) (p : Made) → IsRunPlanned w.book env t p → IsBegun before after (promise.RunAll (promised p)) x w
      → (old new : Told) (result : Result Done ExecFault) → Tells old w → Executes p old new result → IsUnderWay before after (promise.RunAll (promised p)) x w new
  run_executed env p planned begun old new result told made =
      let (e, known, of) = run_of w.book env t p (env_at w.book env) refl planned.plan in
      executed_so before after (promise.RunAll (promised p)) x w begun (run_met env p planned) p []
      (append-nil (executed p w) ∙ of_run w.book planned.present p env t planned.plan w refl after (subst (Shows after) (sym of.moment_is) is)) old new result told made

  -- the environment's views, once the plan is executed whole: the book is said of its record of the environment
  pub apply_promoted : (nodes : List Node) (env : List ℕ) (again : Option Restate) (p : Made) → IsPlanned w.book nodes env t again p → IsBegun before after (promise.Apply (promised p)) x w
      → (old mid new : Told) (done : Done) → Tells old w → Executes p old mid (Ok done) → (b : Book) (list : List Ref) (objects : List Name) → env_at b p.env ≡ env_at w.book p.env
      → list ≡ refs_by_name (planned_models p) → paired list objects ≡ objects_by_name (planned_models p)
      → (result : Result ℕ WhFail) → Makes (λ v. promotion b p.env list objects p.moment) mid new result → IsUnderWay before after (promise.Apply (promised p)) x w new
  apply_promoted nodes env again p planned begun old mid new done told whole b list objects same are pairs result made = go result made.ok made.err
    where
      k : promise.Command
      k = promise.Apply (promised p)

      last : List Change
      last = promotion b p.env list objects p.moment

      their : last ≡ promotion w.book p.env list objects p.moment
      their =
          ap (λ (o : Option Env). SetPending p.env list (expiry p.env p.moment)
          ∷ (map (points p.env) (paired list objects) ++ (map (drops p.env) (filter (is_absent (map ref_name list)) (names_by_order (map ref_name (previous_of o)))) ++ Finalize p.env ∷ []))) same

      project : is_proper p.project.nodes ≡ true
      project = ap is_proper planned.plan.project_is ∙ planned.proper

      is_all : executed p w ++ last ≡ changes after k w
      is_all =
          ap (λ (l : List Change). executed p w ++ l) their
          ∙ with_views w.book planned.present p (nodes, env, t, again, real, project, planned.plan) list objects are pairs w refl (whole.ok w told).2 after (subst (Shows after) (sym planned.plan.moment_is) is)

      there : mid.world ≡ Some (run w (executed p w))
      there = (whole.ok w told).1.world

      each : (made more : List Change) → last ≡ made ++ more → new.world ≡ Some (run (run w (executed p w)) made) → IsUnderWay before after k x w new
      each made more is_so at =
          front_made before after k x w begun (apply_met nodes env again p planned) (executed p w ++ last) is_all (executed p w ++ made) more
          (ap (λ (l : List Change). executed p w ++ l) is_so ∙ sym (append_assoc (executed p w) made more)) new (at ∙ ap Some (sym (run-append w (executed p w) made)))

      go : (r : Result ℕ WhFail) → OnOk r (Ran (λ v. last) mid new) → OnErr r (Stopped (λ v. last) mid new) → IsUnderWay before after k x w new
      go (Ok y) ok err = let h = ok.told (run w (executed p w)) there in each last [] (sym (append-nil last)) h.world
      go (Err f) ok err = let h = err.told (run w (executed p w)) there in each h.made h.rest h.parts h.world

-- the janitor, and an environment that is to go
module _ (before after : Clock) (x : Parts) (w : World) (was : Shows before w.book.moment) where
  swept_so : (k : promise.Command) (list : List Change) → list ≡ changes after k w → IsBegun before after k x w → IsMet before after w k → (old new : Told) → Tells old w → {T : Type 0} (result : Result T SweepFault) → Sweeps list old new result → IsUnderWay before after k x w new
  swept_so k list are begun m old new told (Ok y) is =
      let h = is.ok.told w told.world in front_made before after k x w begun m list are list [] (sym (append-nil list)) new h.world
  swept_so k list are begun m old new told (Err f) is =
      let h = is.err.told w told.world in front_made before after k x w begun m list are h.made h.rest h.parts new h.world

  pub swept : (t : ℤ) → IsMoment t → Shows after t → allows w (promise.Janitor t) ≡ true → IsBegun before after (promise.Janitor t) x w → (old new : Told) → Tells old w → (result : Result Swept SweepFault) → Sweeps (sweeps w.book t) old new result → IsUnderWay before after (promise.Janitor t) x w new
  swept t real is may begun old new told result made =
      swept_so (promise.Janitor t) (sweeps w.book t) (sym (ap (λ (b : Bool). cond b (sweeps w.book t) []) may)) begun
      (record { was = was; is = subst (Shows after) (sym (ap (λ (b : Bool). cond b t w.book.moment) may)) is; asked = moment_is t real }) old new told result made

  pub invalidated : (env : List ℕ) → Shows after w.book.moment → allows w (promise.Invalidate env) ≡ true → IsBegun before after (promise.Invalidate env) x w → (old new : Told) → Tells old w → (result : Result (Unit {0}) SweepFault) → Sweeps (Expire env ∷ []) old new result
      → IsUnderWay before after (promise.Invalidate env) x w new
  invalidated env is may begun old new told result made =
      swept_so (promise.Invalidate env) (Expire env ∷ []) (sym (ap (λ (b : Bool). cond b (Expire env ∷ []) []) may)) begun
      (record { was = was; is = subst (Shows after) (sym (ap (λ (b : Bool). cond b w.book.moment w.book.moment) may)) is; asked = tt }) old new told result made
