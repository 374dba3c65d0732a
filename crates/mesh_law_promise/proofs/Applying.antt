-- An apply keeps a world sound at each exit, and leaves its environment final.
use Rattle.std.proofs.Common.{◌≡◌, ℕ, ℤ, ◌≤◌, Bool, true, false, cond, ◌||◌, List, [], ◌∷◌, ◌++◌, length, None, refl, sym, ap, ◌∙◌, subst}
use Rattle.std.specs.Int.Signed.{lt_z}
use Rattle.std.specs.List.{AllByRecursion, Contains}
use Rattle.std.specs.declared.option.Option.{Option}
use Rattle.std.proofs.lemmas.List.{append-nil, append_assoc}
use Rattle.std.proofs.lemmas.Bool.{not-true as not_false}
use Rattle.mesh_list.specs.Keyed.{found}
use Rattle.mesh_base_values.specs.Names.{text_cmp}
use Rattle.mesh_base.specs.Keys.{env_name}
use Rattle.mesh_base.specs.declared.forgets.Forget.{Forget}
use Rattle.mesh_base.specs.declared.forgets.Restate.{Restate}
use Rattle.mesh_base.specs.declared.snapshots.Ref.{Ref}
use Rattle.mesh_base.specs.declared.snapshots.Snapshot.{Snapshot}
use Rattle.mesh_time.proofs.Apart.{lt_not}
use Rattle.mesh_house_book.specs.WellFormed.{is_moment}
use Rattle.mesh_house_book.specs.declared.book.Book.{Book}
use Rattle.mesh_spec_model.specs.Horizons.{Clock, Shows}
use Rattle.mesh_law_query.proofs.Has.{Has, Has_to}
use Rattle.mesh_house.specs.Step.{run, step}
use Rattle.mesh_house.specs.declared.world.Change.{Change}
use Rattle.mesh_house.specs.declared.world.Change.TheVariants.{Moment, PutSnapshot}
use Rattle.mesh_house.specs.declared.world.World.{World}
use Rattle.mesh_house.proofs.Runs.{run-append}
use Rattle.mesh_spec_changes.specs.due.Dues.{again}
use Rattle.mesh_spec_changes.specs.due.Parts.{Parts, either}
use Rattle.mesh_spec_changes.specs.due.Plans.{Planned}
use Rattle.mesh_spec_changes.specs.Changes.{Plan, applies, executes, forgetting, planned_ref, promotes, puts, refs_by_name, runs, snapshot_of}
use Rattle.mesh_spec_changes.specs.Commands.{is_not_behind, is_present}
use Rattle.mesh_spec_changes.specs.Environments.{IsEnv, env_at}
use Rattle.mesh_spec_changes.specs.Planning.{IsRunPlan}
use Rattle.mesh_spec_promise.specs.Current.{AreDone, IsDone}
use Rattle.mesh_spec_promise.specs.Final.{Final}
use Rattle.mesh_spec_promise.specs.Histories.{IsApplied, IsCovered, left}
use Rattle.mesh_spec_promise.specs.Moved.{moved}
use Rattle.mesh_spec_promise.specs.Sound.{IsBookSound, Sound}
use Rattle.mesh_spec_promise.proofs.Doubts.{doubted}
use Rattle.mesh_spec_promise.proofs.Finals.{environment_final}
use Rattle.mesh_spec_promise.proofs.Moments.{moment_raised}
use Rattle.mesh_law_changes.specs.along.Along.{StaysAlong}
use Rattle.mesh_law_changes.specs.along.Ready.{AreApart, AreRanked, ArePut, IsFilled, IsPlaced, IsReady}
use Rattle.mesh_law_changes.proofs.along.Along.{along_and_then, along_append, along_end, along_then, left_both, left_same}
use Rattle.mesh_law_steps.proofs.puts.Puts.{plans_put}
use Rattle.mesh_law_steps.proofs.opens.Plans.{plan_apart_and_ranked}
use Rattle.mesh_law_steps.proofs.opens.Ready.{opened_ready}
use Rattle.mesh_law_steps.proofs.opens.Runs.{run_placed}
use Rattle.mesh_law_promise.proofs.InTurn.{all_filled, all_of, each_of}
use Rattle.mesh_law_promise.proofs.Names.{HaveNames, proper_few, proper_names, refs_to}
use Rattle.mesh_law_promise.proofs.Promoting.{IsModelMade, done_made, promoted_final, promoting_along}

-- a moment that is raised is this one, where it isn't behind
pub raised_is : (w : World) (t : ℤ) → lt_z t w.book.moment ≡ false → (step w (Moment t)).book.moment ≡ t
raised_is w t h = ap (λ (b : Bool). cond b w.book.moment t) h

-- what is in doubt, and more
pub first_of : (x y : Parts) (q : Forget) → either x y q ≡ false → x q ≡ false
first_of x y q h = go (x q) h
  where
    go : (b : Bool) → (b || y q) ≡ false → b ≡ false
    go true h = absurd (let clash : true ≡ false = h in cc)
    go false h = refl

-- A plan whose models are put is opened, made and filled: some changes are made, along which the world stays sound,
-- and then all of its models are done.
record IsMade (clock : Clock) (b : Book) (plan : Plan) (x : Parts) (w : World) : Type 0 where
  made : List Change
  changes : (last : List Change) → executes clock b plan.forgets plan.models last plan.models (run w (forgetting plan.forgets)) ≡ made ++ last
  along : StaysAlong x w (forgetting plan.forgets ++ made)
  sound : Sound (left (forgetting plan.forgets ++ made) x) (run w (forgetting plan.forgets ++ made))
  now : Shows clock (run w (forgetting plan.forgets ++ made)).book.moment
  environments : (run w (forgetting plan.forgets ++ made)).book.environments ≡ b.environments
  placed : AllByRecursion (IsPlaced plan.models (run w (forgetting plan.forgets ++ made)).book.snapshots) plan.models
  done : AreDone clock (left (forgetting plan.forgets ++ made) x) (run w (forgetting plan.forgets ++ made)).book plan.models

make_plan : (clock : Clock) (b : Book) (plan : Plan) (restate : Option Restate) (x : Parts) (w : World) → IsBookSound b → Sound x w → Shows clock w.book.moment → ArePut b plan.models w → plan.forgets ≡ again clock b restate plan.models
    → AreApart plan.models → AreRanked plan.models [] plan.models → IsCovered clock b plan x → IsMade clock b plan x w
make_plan clock b plan restate x w book_sound sound now put again_is apart ranked covered = at (opened_ready clock b plan.forgets plan.models restate x w book_sound sound now put again_is apart ranked covered)
  where
    filled_by : StaysAlong x w (forgetting plan.forgets) → IsReady clock b plan.forgets plan.models (left (forgetting plan.forgets) x) (run w (forgetting plan.forgets)) → (run w (forgetting plan.forgets)).book.environments ≡ b.environments
        → (made : List Change) → ((last : List Change) → executes clock b plan.forgets plan.models last plan.models (run w (forgetting plan.forgets)) ≡ made ++ last) → StaysAlong (left (forgetting plan.forgets) x) (run w (forgetting plan.forgets)) made
        → IsFilled clock plan.models (run w (forgetting plan.forgets)).book (left made (left (forgetting plan.forgets) x)) (run (run w (forgetting plan.forgets)) made) → IsMade clock b plan x w
    filled_by open_along ready envs made changes along filled =
        let ends : run w (forgetting plan.forgets ++ made) ≡ run (run w (forgetting plan.forgets)) made = run-append w (forgetting plan.forgets) made in
        let doubts : left (forgetting plan.forgets ++ made) x ≡ left made (left (forgetting plan.forgets) x) = left_both (forgetting plan.forgets) made x in
        record {
          made = made;
          changes = changes;
          along = along_append x w (forgetting plan.forgets) made open_along along;
          sound = subst (λ (y : Parts). Sound y (run w (forgetting plan.forgets ++ made))) (sym doubts) (subst (Sound (left made (left (forgetting plan.forgets) x))) (sym ends) filled.sound);
          now = subst (λ (v : World). Shows clock v.book.moment) (sym ends) (subst (Shows clock) (sym filled.moment) ready.moment);
          environments = ap (λ (v : World). v.book.environments) ends ∙ filled.environments ∙ envs;
          placed = subst (λ (l : List Snapshot). AllByRecursion (IsPlaced plan.models l) plan.models) (sym (ap (λ (v : World). v.book.snapshots) ends ∙ filled.snapshots)) ready.placed;
          done = subst (λ (y : Parts). AreDone clock y (run w (forgetting plan.forgets ++ made)).book plan.models) (sym doubts)
              (subst (λ (v : World). AreDone clock (left made (left (forgetting plan.forgets) x)) v.book plan.models) (sym ends) filled.done);
        }

    at : StaysAlong x w (forgetting plan.forgets) × IsReady clock b plan.forgets plan.models (left (forgetting plan.forgets) x) (run w (forgetting plan.forgets)) × ((run w (forgetting plan.forgets)).book.environments ≡ b.environments)
        × ((run w (forgetting plan.forgets)).book.moment ≡ w.book.moment) × ((run w (forgetting plan.forgets)).sources ≡ w.sources) → IsMade clock b plan x w
    at (open_along, ready, envs, m, s) =
        let (made, changes, along, filled, t) = all_filled clock b plan.forgets plan.models (left (forgetting plan.forgets) x) (run w (forgetting plan.forgets)) ready in
        filled_by open_along ready envs made changes along filled

-- the parts in doubt, the world at the plan's moment, and the clocks
module _ (x : Parts) (w : World) (plan : Plan) (before after : Clock) (sound : Sound x w) (ahead : is_not_behind plan.moment w.book ≡ true) (real : is_moment plan.moment ≡ true) (was : Shows before w.book.moment) (is : Shows after plan.moment) where
  abbrev doubts : Parts
  doubts = either x (moved w before after w.sources)

  abbrev raised : World
  raised = step w (Moment plan.moment)

  begun_sound : Sound doubts w
  begun_sound = doubted x doubts w (first_of x (moved w before after w.sources)) sound

  not_later : lt_z plan.moment w.book.moment ≡ false
  not_later = not_false (lt_z plan.moment w.book.moment) ahead

  pub raised_sound : Sound doubts raised
  raised_sound = moment_raised x w sound plan.moment (lt_not plan.moment w.book.moment not_later) real before after was is

  pub raised_now : Shows after raised.book.moment
  raised_now = subst (Shows after) (sym (raised_is w plan.moment not_later)) is

  module _ (covered : IsCovered after w.book plan doubts) where
    -- an apply
    module _ (present : is_present w.book ≡ true) (asked : IsApplied after w plan) where
      pub apart_ranked : AreApart plan.models × AreRanked plan.models [] plan.models
      apart_ranked = plan_apart_and_ranked after w.book asked.nodes asked.restate plan sound.book asked.proper asked.planned

      abbrev put_list : List Change
      put_list = puts plan.moment plan.models

      pub puts_made : StaysAlong doubts raised put_list × ArePut w.book plan.models (run raised put_list) × ((run raised put_list).book.moment ≡ raised.book.moment) × ((run raised put_list).sources ≡ w.sources)
      puts_made = plans_put after x doubts w asked.nodes asked.restate plan sound present asked.proper asked.planned raised_sound

      abbrev put_world : World
      put_world = run raised put_list

      nothing_taken : left put_list doubts ≡ doubts
      nothing_taken = left_same (λ (p : Planned). PutSnapshot (snapshot_of plan.moment plan.models p)) (λ p q. refl) plan.models doubts

      pub put_sound : Sound doubts put_world
      put_sound = subst (λ (y : Parts). Sound y put_world) nothing_taken (along_end doubts raised put_list puts_made.0)

      all_made : IsMade after w.book plan doubts put_world
      all_made = make_plan after w.book plan asked.restate doubts put_world sound.book put_sound (subst (Shows after) (sym puts_made.2) raised_now) puts_made.1 asked.planned.forgets apart_ranked.0 apart_ranked.1 covered

      abbrev fills_list : List Change
      fills_list = forgetting plan.forgets ++ all_made.made

      abbrev last : List Change
      last = promotes w.book plan

      list_is : applies after plan w ≡ Moment plan.moment ∷ (put_list ++ (fills_list ++ last))
      list_is =
          ap (λ (l : List Change). Moment plan.moment ∷ l)
          (append_assoc put_list (forgetting plan.forgets) _
          ∙ ap (λ (v : World). put_list ++ (forgetting plan.forgets ++ executes after w.book plan.forgets plan.models last plan.models v)) (run-append raised put_list (forgetting plan.forgets))
          ∙ ap (λ (l : List Change). put_list ++ (forgetting plan.forgets ++ l)) (all_made.changes last)
          ∙ ap (λ (l : List Change). put_list ++ l) (sym (append_assoc (forgetting plan.forgets) all_made.made last)))

      names : HaveNames plan.models
      names = proper_names asked.nodes plan.models asked.planned.models asked.proper

      few : length plan.models ≤ 4096
      few = proper_few asked.nodes plan.models asked.planned.models asked.proper

      models_made : (p : Planned) → Has p plan.models → IsModelMade (run put_world fills_list).book p
      models_made p h =
          done_made after (left fills_list doubts) (run put_world fills_list).book p
          (each_of (IsDone after (left fills_list doubts) (run put_world fills_list).book) plan.models all_made.done p h)

      pub apply_along : StaysAlong doubts w (applies after plan w)
      apply_along =
          subst (StaysAlong doubts w) (sym list_is)
          (along_then doubts w (Moment plan.moment) (put_list ++ (fills_list ++ last)) begun_sound (λ q. refl)
          (along_and_then doubts raised put_list (fills_list ++ last) nothing_taken puts_made.0
          (along_append doubts put_world fills_list last all_made.along
          (promoting_along plan w.book (left fills_list doubts) (run put_world fills_list) all_made.sound all_made.environments all_made.placed models_made names few))))

      ends : run w (applies after plan w) ≡ run (run put_world fills_list) last
      ends = ap (run w) list_is ∙ run-append raised put_list (fills_list ++ last) ∙ run-append put_world fills_list last

      pub apply_final : Final (run w (applies after plan w)) after plan.env plan.models
      apply_final =
          subst (λ (v : World). Final v after plan.env plan.models) (sym ends)
          (promoted_final plan w.book (left fills_list doubts) (run put_world fills_list) all_made.sound all_made.environments all_made.placed models_made names few after all_made.now all_made.done)

    -- a run
    module _ (asked : IsRunPlan after w.book plan) where
      pub put_there : AreApart plan.models × AreRanked plan.models [] plan.models
          × ((v : World) → v.book.snapshots ≡ w.book.snapshots → v.book.versions ≡ w.book.versions → v.book.environments ≡ w.book.environments → ArePut w.book plan.models v)
      put_there = run_placed after x w plan sound asked

      run_made : IsMade after w.book plan doubts raised
      run_made = make_plan after w.book plan None doubts raised sound.book raised_sound raised_now (put_there.2 raised refl refl refl) asked.forgets put_there.0 put_there.1 covered

      abbrev run_list : List Change
      run_list = forgetting plan.forgets ++ run_made.made

      run_list_is : runs after plan w ≡ Moment plan.moment ∷ run_list
      run_list_is = ap (λ (l : List Change). Moment plan.moment ∷ (forgetting plan.forgets ++ l)) (run_made.changes [] ∙ append-nil run_made.made)

      pub run_along : StaysAlong doubts w (runs after plan w)
      run_along = subst (StaysAlong doubts w) (sym run_list_is) (along_then doubts w (Moment plan.moment) run_list begun_sound (λ q. refl) run_made.along)

      run_ends : run w (runs after plan w) ≡ run raised run_list
      run_ends = ap (run w) run_list_is

      -- the environment's list is that of the models
      module _ (list : asked.env.list ≡ refs_by_name plan.models) (named : asked.env.name ≡ plan.env) (final : asked.env.pending ≡ false) (names : HaveNames plan.models) where
        known_then : IsEnv (run raised run_list).book asked.env
        known_then = ap (found text_cmp env_name asked.env.name) run_made.environments ∙ ap (env_at w.book) named ∙ asked.known

        pub run_final : Final (run w (runs after plan w)) after plan.env plan.models
        run_final =
            subst (λ (v : World). Final v after plan.env plan.models) (sym run_ends)
            (subst (λ (n : List ℕ). Final (run raised run_list) after n plan.models) named
            (environment_final (left run_list doubts) (run raised run_list) after run_made.sound run_made.now asked.env known_then final plan.models list run_made.done
            (all_of (λ p. Contains asked.env.list (planned_ref p)) plan.models (λ p h. subst (λ (l : List Ref). Contains l (planned_ref p)) (sym list) (Has_to (refs_by_name plan.models) (planned_ref p) (refs_to plan.models names p h))))))
