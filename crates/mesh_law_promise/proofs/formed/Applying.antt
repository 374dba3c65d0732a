-- An apply, and a run, keep a world sound at each exit, whether they settle or not, but for what is in doubt, what
-- moves, and all parts of what they plan.
use Rattle.std.proofs.Common.{◌≡◌, ◌≤◌, Bool, true, false, ◌||◌, List, [], ◌∷◌, ◌++◌, length, refl, sym, ap, ◌∙◌, subst}
use Rattle.std.specs.Int.Signed.{lt_z}
use Rattle.std.specs.List.{AllByRecursion}
use Rattle.std.specs.declared.option.Option.{Option}
use Rattle.std.specs.declared.option.Option.TheVariants.{None}
use Rattle.std.proofs.lemmas.List.{append_assoc}
use Rattle.std.proofs.lemmas.Bool.{not-true as not_false}
use Rattle.mesh_base.specs.declared.forgets.Forget.{Forget}
use Rattle.mesh_base.specs.declared.forgets.Restate.{Restate}
use Rattle.mesh_base.specs.declared.snapshots.Snapshot.{Snapshot}
use Rattle.mesh_time.proofs.Apart.{lt_not}
use Rattle.mesh_house_book.specs.WellFormed.{is_moment}
use Rattle.mesh_house_book.specs.declared.book.Book.{Book}
use Rattle.mesh_spec_model.specs.Horizons.{Clock, Shows}
use Rattle.mesh_law_query.proofs.Has.{Has, Has_to}
use Rattle.mesh_house.specs.Step.{run, step}
use Rattle.mesh_house.specs.declared.world.Change.{Change}
use Rattle.mesh_house.specs.declared.world.Change.TheVariants.{Moment}
use Rattle.mesh_house.specs.declared.world.World.{World}
use Rattle.mesh_house.proofs.Runs.{run-append}
use Rattle.mesh_spec_changes.specs.due.Dues.{again}
use Rattle.mesh_spec_changes.specs.due.Parts.{Parts, either, object_of, same_name}
use Rattle.mesh_spec_changes.specs.due.Plans.{Planned, is_planned}
use Rattle.mesh_spec_changes.specs.Changes.{Plan, applies, executes, forgetting, opens, promotes, puts, run_opens, runs}
use Rattle.mesh_spec_changes.specs.Commands.{is_not_behind, is_present}
use Rattle.mesh_spec_changes.specs.Planning.{IsRunPlan}
use Rattle.mesh_spec_promise.specs.Histories.{IsApplied}
use Rattle.mesh_spec_promise.specs.Moved.{moved}
use Rattle.mesh_spec_promise.specs.Sound.{Sound}
use Rattle.mesh_spec_promise.proofs.Doubts.{doubted}
use Rattle.mesh_spec_promise.proofs.Moments.{moment_raised}
use Rattle.mesh_spec_promise.proofs.Seconds.{any_of}
use Rattle.mesh_law_changes.proofs.Recorded.{same_object}
use Rattle.mesh_law_changes.specs.along.Along.{StaysAlong}
use Rattle.mesh_law_changes.specs.along.Ready.{AreApart, AreRanked, ArePut, IsPlaced}
use Rattle.mesh_law_steps.proofs.puts.Puts.{plans_put}
use Rattle.mesh_law_steps.proofs.opens.Plans.{plan_apart_and_ranked}
use Rattle.mesh_law_steps.proofs.opens.Ready.{along, each_opened, environments_left, moment_left, snapshots_left}
use Rattle.mesh_law_steps.proofs.opens.Runs.{run_placed}
use Rattle.mesh_law_promise.proofs.Applying.{first_of, raised_is}
use Rattle.mesh_law_promise.proofs.InTurn.{each_of}
use Rattle.mesh_law_promise.proofs.Names.{HaveNames, proper_few, proper_names}
use Rattle.mesh_law_promise.proofs.Promoting.{IsModelMade, promoting_along}
use Rattle.mesh_law_promise.proofs.formed.Formed.{FormedAlong, formed_append, formed_end, formed_more}
use Rattle.mesh_law_promise.proofs.formed.InTurn.{AreFormed, models_formed, models_state, models_whole}

-- All models of a plan are placed and made, and the environments are as they were: what comes last is still to come.
pub record AreExecuted (b : Book) (all : List Planned) (z : Parts) (u : World) : Type 0 where
  pub sound : Sound z u
  pub environments : u.book.environments ≡ b.environments
  pub placed : AllByRecursion (IsPlaced all u.book.snapshots) all
  pub made : (p : Planned) → Has p all → IsModelMade u.book p

-- what is in doubt, what moves, and all parts of the objects of a plan
module _ (x : Parts) (w : World) (plan : Plan) (before after : Clock) where
  abbrev doubts : Parts
  doubts = either x (moved w before after w.sources)

  abbrev planned : Parts
  planned q = is_planned plan.models (object_of q)

  abbrev open_parts : Parts
  open_parts = either doubts planned

  module _ (sound : Sound x w) (ahead : is_not_behind plan.moment w.book ≡ true) (real : is_moment plan.moment ≡ true) (was : Shows before w.book.moment) (is : Shows after plan.moment) where
    abbrev raised : World
    raised = step w (Moment plan.moment)

    begun_sound : Sound open_parts w
    begun_sound = doubted x open_parts w (λ q free. first_of x (moved w before after w.sources) q (first_of doubts planned q free)) sound

    not_later : lt_z plan.moment w.book.moment ≡ false
    not_later = not_false (lt_z plan.moment w.book.moment) ahead

    raised_sound : Sound open_parts raised
    raised_sound = doubted doubts open_parts raised (first_of doubts planned) (moment_raised x w sound plan.moment (lt_not plan.moment w.book.moment not_later) real before after was is)

    raised_now : Shows after raised.book.moment
    raised_now = subst (Shows after) (sym (raised_is w plan.moment not_later)) is

    -- all parts of a planned model are among them
    doubtful : (p : Planned) → Has p plan.models → (q : Forget) → object_of q ≡ p.object → open_parts q ≡ true
    doubtful p h q of = go (doubts q) (any_of (λ (r : Planned). same_name r.object (object_of q)) plan.models p (Has_to plan.models p h) (ap (same_name p.object) of ∙ same_object p.object))
      where
        go : (c : Bool) → planned q ≡ true → (c || planned q) ≡ true
        go true e = refl
        go false e = e

    -- a plan whose models are put is opened, its models are made and filled, and some last changes come
    module _ (restate : Option Restate) (v : World) (v_sound : Sound open_parts v) (v_now : Shows after v.book.moment) (put : ArePut w.book plan.models v) (again_is : plan.forgets ≡ again after w.book restate plan.models)
        (apart : AreApart plan.models) (ranked : AreRanked plan.models [] plan.models) (last : List Change)
        (ends : (u : World) → Sound open_parts u → u.book.environments ≡ w.book.environments → AllByRecursion (IsPlaced plan.models u.book.snapshots) plan.models → ((p : Planned) → Has p plan.models → IsModelMade u.book p) → FormedAlong open_parts u last) where
      abbrev base : World
      base = run v (forgetting plan.forgets)

      forgets_along : FormedAlong open_parts v (forgetting plan.forgets)
      forgets_along = formed_more open_parts open_parts v (forgetting plan.forgets) (λ q e. e) (along after w.book plan.forgets plan.models restate open_parts v v_sound v_now put again_is apart)

      base_snapshots : base.book.snapshots ≡ v.book.snapshots
      base_snapshots = snapshots_left after w.book plan.forgets plan.models restate open_parts v v_sound v_now put again_is apart

      base_environments : base.book.environments ≡ w.book.environments
      base_environments = environments_left after w.book plan.forgets plan.models restate open_parts v v_sound v_now put again_is apart

      base_now : Shows after base.book.moment
      base_now = subst (Shows after) (sym (moment_left after w.book plan.forgets plan.models restate open_parts v v_sound v_now put again_is apart)) v_now

      base_placed : AllByRecursion (IsPlaced plan.models base.book.snapshots) plan.models
      base_placed = subst (λ (ss : List Snapshot). AllByRecursion (IsPlaced plan.models ss) plan.models) (sym base_snapshots) put.placed

      executed : (u : World) → AreFormed plan.models base open_parts u → AreExecuted w.book plan.models open_parts u
      executed u f = record {
        sound = f.sound;
        environments = f.environments ∙ base_environments;
        placed = subst (λ (ss : List Snapshot). AllByRecursion (IsPlaced plan.models ss) plan.models) (sym f.snapshots) base_placed;
        made = f.made;
      }

      ended : (u : World) → AreFormed plan.models base open_parts u → FormedAlong open_parts u last
      ended u f = let e = executed u f in ends u e.sound e.environments e.placed e.made

      plan_formed : FormedAlong open_parts v (forgetting plan.forgets ++ executes after w.book plan.forgets plan.models last plan.models base)
      plan_formed =
          formed_append open_parts v (forgetting plan.forgets) (executes after w.book plan.forgets plan.models last plan.models base) forgets_along
          (models_formed after w.book plan.forgets plan.models open_parts base base_now (each_of (IsPlaced plan.models base.book.snapshots) plan.models base_placed) doubtful last ended
          (formed_end open_parts v (forgetting plan.forgets) forgets_along)
          (each_opened after w.book plan.forgets plan.models restate open_parts v v_sound v_now put again_is apart) apart ranked)

      -- whatever comes last does come
      plan_whole : (made : List Change) × ((end : List Change) → executes after w.book plan.forgets plan.models end plan.models base ≡ made ++ end)
      plan_whole =
          models_whole after w.book plan.forgets plan.models open_parts base base_now (each_of (IsPlaced plan.models base.book.snapshots) plan.models base_placed) doubtful last ended
          (formed_end open_parts v (forgetting plan.forgets) forgets_along)
          (each_opened after w.book plan.forgets plan.models restate open_parts v v_sound v_now put again_is apart) apart ranked

      -- what is left where nothing comes last
      plan_state : AreExecuted w.book plan.models open_parts (run base (executes after w.book plan.forgets plan.models [] plan.models base))
      plan_state =
          executed (run base (executes after w.book plan.forgets plan.models [] plan.models base))
          (models_state after w.book plan.forgets plan.models open_parts base base_now (each_of (IsPlaced plan.models base.book.snapshots) plan.models base_placed) doubtful last ended
          (formed_end open_parts v (forgetting plan.forgets) forgets_along)
          (each_opened after w.book plan.forgets plan.models restate open_parts v v_sound v_now put again_is apart) apart ranked)

    -- an apply
    module _ (present : is_present w.book ≡ true) (asked : IsApplied after w plan) where
      apart_ranked : AreApart plan.models × AreRanked plan.models [] plan.models
      apart_ranked = plan_apart_and_ranked after w.book asked.nodes asked.restate plan sound.book asked.proper asked.planned

      abbrev put_list : List Change
      put_list = puts plan.moment plan.models

      abbrev put_world : World
      put_world = run raised put_list

      puts_made : StaysAlong open_parts raised put_list × ArePut w.book plan.models put_world × (put_world.book.moment ≡ raised.book.moment) × (put_world.sources ≡ w.sources)
      puts_made = plans_put after x open_parts w asked.nodes asked.restate plan sound present asked.proper asked.planned raised_sound

      puts_along : FormedAlong open_parts raised put_list
      puts_along = formed_more open_parts open_parts raised put_list (λ q free. free) puts_made.0

      abbrev last_of : List Change
      last_of = promotes w.book plan

      names : HaveNames plan.models
      names = proper_names asked.nodes plan.models asked.planned.models asked.proper

      few : length plan.models ≤ 4096
      few = proper_few asked.nodes plan.models asked.planned.models asked.proper

      promoted : (u : World) → Sound open_parts u → u.book.environments ≡ w.book.environments → AllByRecursion (IsPlaced plan.models u.book.snapshots) plan.models → ((p : Planned) → Has p plan.models → IsModelMade u.book p) → FormedAlong open_parts u last_of
      promoted u so environments placed made = formed_more open_parts open_parts u last_of (λ q free. free) (promoting_along plan w.book open_parts u so environments placed made names few)

      abbrev rest_of : List Change
      rest_of = forgetting plan.forgets ++ executes after w.book plan.forgets plan.models last_of plan.models (run put_world (forgetting plan.forgets))

      -- with any changes behind them
      list_with : (end : List Change) → opens plan ++ executes after w.book plan.forgets plan.models end plan.models (run w (opens plan))
          ≡ Moment plan.moment ∷ (put_list ++ (forgetting plan.forgets ++ executes after w.book plan.forgets plan.models end plan.models (run put_world (forgetting plan.forgets))))
      list_with end =
          ap (λ (l : List Change). Moment plan.moment ∷ l)
          (append_assoc put_list (forgetting plan.forgets) _
          ∙ ap (λ (v : World). put_list ++ (forgetting plan.forgets ++ executes after w.book plan.forgets plan.models end plan.models v)) (run-append raised put_list (forgetting plan.forgets)))

      list_is : applies after plan w ≡ Moment plan.moment ∷ (put_list ++ rest_of)
      list_is = list_with last_of

      pub apply_formed : FormedAlong open_parts w (applies after plan w)
      apply_formed =
          subst (FormedAlong open_parts w) (sym list_is) (
            begun_sound,
            formed_append open_parts raised put_list rest_of puts_along
                (plan_formed asked.restate put_world (formed_end open_parts raised put_list puts_along) (subst (Shows after) (sym puts_made.2) raised_now) puts_made.1 asked.planned.forgets apart_ranked.0 apart_ranked.1 last_of promoted),
          )

      -- it is made whole: whatever changes came last would come
      pub apply_whole : (made : List Change) × ((end : List Change) → opens plan ++ executes after w.book plan.forgets plan.models end plan.models (run w (opens plan)) ≡ made ++ end)
      apply_whole =
          let (more, ends) =
          plan_whole asked.restate put_world (formed_end open_parts raised put_list puts_along) (subst (Shows after) (sym puts_made.2) raised_now) puts_made.1 asked.planned.forgets apart_ranked.0 apart_ranked.1 last_of promoted in (
            Moment plan.moment ∷ (put_list ++ (forgetting plan.forgets ++ more)),
            λ end. list_with end
                ∙ ap (λ (l : List Change). Moment plan.moment ∷ (put_list ++ (forgetting plan.forgets ++ l))) (ends end)
                ∙ ap (λ (l : List Change). Moment plan.moment ∷ (put_list ++ l)) (sym (append_assoc (forgetting plan.forgets) more end))
                ∙ ap (λ (l : List Change). Moment plan.moment ∷ l) (sym (append_assoc put_list (forgetting plan.forgets ++ more) end)),
          )

      -- what it leaves before what comes last
      pub apply_state : AreExecuted w.book plan.models open_parts (run w (opens plan ++ executes after w.book plan.forgets plan.models [] plan.models (run w (opens plan))))
      apply_state =
          let more : List Change = executes after w.book plan.forgets plan.models [] plan.models (run put_world (forgetting plan.forgets)) in
          subst (AreExecuted w.book plan.models open_parts)
          (sym (ap (run w) (list_with []) ∙ run-append raised put_list (forgetting plan.forgets ++ more) ∙ run-append put_world (forgetting plan.forgets) more))
          (plan_state asked.restate put_world (formed_end open_parts raised put_list puts_along) (subst (Shows after) (sym puts_made.2) raised_now) puts_made.1 asked.planned.forgets apart_ranked.0 apart_ranked.1 last_of promoted)

    -- a run
    module _ (asked : IsRunPlan after w.book plan) where
      put_there : AreApart plan.models × AreRanked plan.models [] plan.models
          × ((v : World) → v.book.snapshots ≡ w.book.snapshots → v.book.versions ≡ w.book.versions → v.book.environments ≡ w.book.environments → ArePut w.book plan.models v)
      put_there = run_placed after x w plan sound asked

      pub run_formed : FormedAlong open_parts w (runs after plan w)
      run_formed = (begun_sound, plan_formed None raised raised_sound raised_now (put_there.2 raised refl refl refl) asked.forgets put_there.0 put_there.1 [] (λ u so environments placed made. so))

      -- it is made whole: whatever changes came last would come
      pub run_whole : (made : List Change) × ((end : List Change) → run_opens plan ++ executes after w.book plan.forgets plan.models end plan.models (run w (run_opens plan)) ≡ made ++ end)
      run_whole =
          let (more, ends) = plan_whole None raised raised_sound raised_now (put_there.2 raised refl refl refl) asked.forgets put_there.0 put_there.1 [] (λ u so environments placed made. so) in (
            Moment plan.moment ∷ (forgetting plan.forgets ++ more),
            λ end. ap (λ (l : List Change). Moment plan.moment ∷ (forgetting plan.forgets ++ l)) (ends end) ∙ ap (λ (l : List Change). Moment plan.moment ∷ l) (sym (append_assoc (forgetting plan.forgets) more end)),
          )
