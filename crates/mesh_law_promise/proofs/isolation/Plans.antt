-- What holds of a table at each exit of an apply and of a run, where it holds whenever a model of the table is filled
-- again: in the sound worlds of one that settles, or in any.
use Rattle.std.proofs.Common.{◌≡◌, true, List, [], ◌∷◌, map, None, refl, sym, ◌∙◌, ap, subst}
use Rattle.std.specs.List.{AllByRecursion}
use Rattle.std.specs.declared.option.Option.{Option}
use Rattle.mesh_base_values.specs.declared.values.Name.{Name}
use Rattle.mesh_base.specs.declared.forgets.Forget.{Forget}
use Rattle.mesh_base.specs.declared.forgets.Restate.{Restate}
use Rattle.mesh_base.specs.declared.snapshots.Snapshot.{Snapshot}
use Rattle.mesh_house_book.specs.WellFormed.{is_moment}
use Rattle.mesh_spec_model.specs.Horizons.{Clock, Shows}
use Rattle.mesh_law_query.proofs.Has.{Has, Has_to}
use Rattle.mesh_law_query.proofs.Lists.{Each}
use Rattle.mesh_house.specs.Step.{run, step}
use Rattle.mesh_house.specs.declared.world.Change.{Change}
use Rattle.mesh_house.specs.declared.world.Change.TheVariants.{Finalize, Moment, PutSnapshot}
use Rattle.mesh_house.specs.declared.world.World.{World}
use Rattle.mesh_house.proofs.Runs.{run-append}
use Rattle.mesh_spec_changes.specs.listed.Closing.{IsSnapshot, closing}
use Rattle.mesh_spec_changes.specs.reuse.Cores.{IsTwin}
use Rattle.mesh_law_reuse.proofs.Given.{given_twins, run_twins}
use Rattle.mesh_spec_changes.specs.due.Dues.{again}
use Rattle.mesh_spec_changes.specs.due.Parts.{Parts, either}
use Rattle.mesh_spec_changes.specs.due.Plans.{Planned}
use Rattle.mesh_spec_changes.proofs.due.Later.{Each_both}
use Rattle.mesh_spec_changes.specs.Changes.{Plan, applies, drops, executes, forgetting, gone, objects_by_name, opens, parents_in, points, promotes, puts, run_opens, runs, snapshot_of}
use Rattle.mesh_spec_changes.specs.Commands.{is_not_behind, is_present}
use Rattle.mesh_spec_changes.specs.Planning.{IsRunPlan}
use Rattle.mesh_spec_promise.specs.Current.{IsReadable}
use Rattle.mesh_spec_promise.specs.Histories.{IsApplied, IsCovered, left}
use Rattle.mesh_spec_promise.specs.Moved.{moved}
use Rattle.mesh_spec_promise.specs.Sound.{Sound}
use Rattle.mesh_law_changes.specs.along.Ready.{AreApart, AreRanked, ArePut, IsPlaced, IsReady}
use Rattle.mesh_law_steps.proofs.puts.Puts.{plans_put}
use Rattle.mesh_law_steps.proofs.opens.Ready.{opened_ready}
use Rattle.mesh_law_steps.proofs.opens.Runs.{run_placed}
use Rattle.mesh_law_promise.proofs.Applying.{apart_ranked, put_sound, put_there, puts_made, raised_now, raised_sound}
use Rattle.mesh_law_promise.proofs.InTurn.{each_of}
use Rattle.mesh_law_promise.proofs.isolation.Elsewhere.{IsElsewhere}
use Rattle.mesh_law_promise.proofs.isolation.Holds.{HoldsAlong, holds_append, holds_each, holds_end}
use Rattle.mesh_law_promise.proofs.isolation.Models.{placed_own}
use Rattle.mesh_law_promise.proofs.isolation.Turns.{FillsAgain, models_hold, ready_holds}

-- what opens a plan, and what switches its environment, is of no object
mapped_elsewhere : {A : Type 0} (object : Name) (f : A → Change) → ((a : A) → IsElsewhere object (f a)) → (items : List A) → Each (IsElsewhere object) (map f items)
mapped_elsewhere object f h [] = tt
mapped_elsewhere object f h (a ∷ as_) = (h a, mapped_elsewhere object f h as_)

forgetting_elsewhere : (object : Name) (list : List Forget) → Each (IsElsewhere object) (forgetting list)
forgetting_elsewhere object [] = tt
forgetting_elsewhere object (q ∷ qs) = (tt, tt)

module _ (w : World) (object : Name) (plan : Plan) where
  puts_elsewhere : Each (IsElsewhere object) (puts plan.moment plan.models)
  puts_elsewhere = mapped_elsewhere object (λ (p : Planned). PutSnapshot (snapshot_of plan.moment plan.models p)) (λ p. tt) plan.models

  opens_elsewhere : Each (IsElsewhere object) (opens plan)
  opens_elsewhere = (tt, Each_both (IsElsewhere object) (puts plan.moment plan.models) (forgetting plan.forgets) puts_elsewhere (forgetting_elsewhere object plan.forgets))

  promotes_elsewhere : Each (IsElsewhere object) (promotes w.book plan)
  promotes_elsewhere = (
    tt,
    Each_both (IsElsewhere object) (map (points plan.env) (objects_by_name plan.models)) _ (mapped_elsewhere object (points plan.env) (λ o. tt) (objects_by_name plan.models))
        (Each_both (IsElsewhere object) (map (drops plan.env) (gone w.book plan.env plan.models)) (Finalize plan.env ∷ [])
        (mapped_elsewhere object (drops plan.env) (λ n. tt) (gone w.book plan.env plan.models)) (tt, tt)),
  )

-- a snapshot of the book, and what holds of its table
module _ (x : Parts) (w : World) (sound : Sound x w) (before after : Clock) (s : Snapshot) (known : IsSnapshot w.book.snapshots s) (K : World → Type 0)
    (elsewhere : (u : World) (c : Change) → IsElsewhere s.object c → K u → K (step u c)) where
  along : (u : World) (list : List Change) → Each (IsElsewhere s.object) list → K u → HoldsAlong K u list
  along u list each k = holds_each K (IsElsewhere s.object) elsewhere u list each k

  module _ (plan : Plan) where
    -- the models of the table are the snapshot's twins
    abbrev HasTwins : Type 0
    HasTwins = (p : Planned) → Has p plan.models → p.object ≡ s.object → IsTwin (closing w.book.snapshots s) p.closure

    apply_twins : IsApplied after w plan → HasTwins
    apply_twins asked p h its =
        (given_twins after w.book asked.nodes asked.restate plan sound.book.well_formed asked.proper asked.planned sound.book.shared p (Has_to plan.models p h) s known (sym its)).1

    ran_twins : IsRunPlan after w.book plan → HasTwins
    ran_twins asked p h its = (run_twins after w.book plan asked sound.book.shared p (Has_to plan.models p h) s known (sym its)).1

    -- what comes behind the opening
    abbrev Executed : World → List Change → List Change
    Executed u last = executes after w.book plan.forgets plan.models last plan.models u

    apply_opened : (K (run w (opens plan)) → HoldsAlong K (run w (opens plan)) (Executed (run w (opens plan)) (promotes w.book plan))) → K w → HoldsAlong K w (applies after plan w)
    apply_opened more k =
        let opened : HoldsAlong K w (opens plan) = along w (opens plan) (opens_elsewhere w s.object plan) k in
        holds_append K w (opens plan) (Executed (run w (opens plan)) (promotes w.book plan)) opened (more (holds_end K w (opens plan) opened))

    run_opened : (K (run w (run_opens plan)) → HoldsAlong K (run w (run_opens plan)) (Executed (run w (run_opens plan)) [])) → K w → HoldsAlong K w (runs after plan w)
    run_opened more k =
        let opened : HoldsAlong K w (run_opens plan) = along w (run_opens plan) (tt, forgetting_elsewhere s.object plan.forgets) k in
        holds_append K w (run_opens plan) (Executed (run w (run_opens plan)) []) opened (more (holds_end K w (run_opens plan) opened))

    -- A model of the table is filled again in any world in which it holds: whatever is in doubt, and whether the
    -- command settles or not.
    module _ (refilled : (p : Planned) → p.object ≡ s.object → IsTwin (closing w.book.snapshots s) p.closure → p.node.own ≡ s.own
        → (u : World) → K u → FillsAgain after w.book plan.forgets plan.models K p u) where
      placed_hold : HasTwins → (u : World) → ArePut w.book plan.models u → (last : List Change) → Each (IsElsewhere s.object) last → (v : World) → K v → HoldsAlong K v (Executed v last)
      placed_hold twins u put last ends v k =
          models_hold after w.book plan.forgets plan.models K s.object elsewhere last (λ t held. along t last ends held) plan.models
          (λ p h its t held. let twin = twins p h its in
          let placed = each_of (IsPlaced plan.models u.book.snapshots) plan.models put.placed p h in
          refilled p its twin (placed_own plan.models w.book.snapshots s p twin u.book.snapshots placed) t held)
          v k

      pub apply_spares : is_not_behind plan.moment w.book ≡ true → is_moment plan.moment ≡ true → Shows before w.book.moment → Shows after plan.moment → is_present w.book ≡ true → IsApplied after w plan
          → K w → HoldsAlong K w (applies after plan w)
      apply_spares ahead real was is present asked k =
          let begun = raised_sound x w plan before after sound ahead real was is in
          let put = plans_put after x (either x (moved w before after w.sources)) w asked.nodes asked.restate plan sound present asked.proper asked.planned begun in
          apply_opened
          (λ opened. placed_hold (apply_twins asked) (run (step w (Moment plan.moment)) (puts plan.moment plan.models)) put.1
          (promotes w.book plan) (promotes_elsewhere w s.object plan) (run w (opens plan)) opened)
          k

      pub run_spares : IsRunPlan after w.book plan → K w → HoldsAlong K w (runs after plan w)
      run_spares asked k =
          let (apart, ranked, put) = run_placed after x w plan sound asked in
          run_opened (λ opened. placed_hold (ran_twins asked) w (put w refl refl refl) [] tt (run w (run_opens plan)) opened) k

  -- A model of the table is filled again in a sound world, over parents that are done.
  module _ (refilled : (forgets : List Forget) (all : List Planned) (p : Planned) → p.object ≡ s.object → IsTwin (closing w.book.snapshots s) p.closure
      → (z : Parts) (u : World) → Sound z u → Shows after u.book.moment → IsPlaced all u.book.snapshots p
      → AllByRecursion (IsReadable after z u.book) (parents_in all p) → u.sources ≡ w.sources → K u → FillsAgain after w.book forgets all K p u)
      (plan : Plan) (ahead : is_not_behind plan.moment w.book ≡ true) (real : is_moment plan.moment ≡ true) (was : Shows before w.book.moment) (is : Shows after plan.moment) where
    abbrev doubts : Parts
    doubts = either x (moved w before after w.sources)

    abbrev raised : World
    raised = step w (Moment plan.moment)

    -- a plan whose models are put is opened, made and filled
    module _ (restate : Option Restate) (again_is : plan.forgets ≡ again after w.book restate plan.models)
        (twins : HasTwins plan) (covered : IsCovered after w.book plan doubts) (apart : AreApart plan.models) (ranked : AreRanked plan.models [] plan.models) where
      filled_holds : (u : World) → Sound doubts u → Shows after u.book.moment → ArePut w.book plan.models u → u.sources ≡ w.sources → (last : List Change) → Each (IsElsewhere s.object) last
          → (v : World) → v ≡ run u (forgetting plan.forgets) → K v → HoldsAlong K v (executes after w.book plan.forgets plan.models last plan.models v)
      filled_holds u u_sound now put same last ends v there k =
          let opened = opened_ready after w.book plan.forgets plan.models restate doubts u sound.book u_sound now put again_is apart ranked covered in
          let z : Parts = left (forgetting plan.forgets) doubts in
          ready_holds after w.book plan.forgets plan.models K s.object elsewhere w.sources
          (λ p h its y t t_sound shows placed readable sources held. refilled plan.forgets plan.models p its (twins p h its) y t t_sound shows placed readable sources held)
          last (λ t held. along t last ends held) z v
          (subst (IsReady after w.book plan.forgets plan.models z) (sym there) opened.1) (ap (λ (t : World). t.sources) there ∙ opened.4 ∙ same) k

    module _ (covered : IsCovered after w.book plan doubts) where
      pub apply_holds : is_present w.book ≡ true → IsApplied after w plan → K w → HoldsAlong K w (applies after plan w)
      apply_holds present asked k =
          let put = puts_made x w plan before after sound ahead real was is covered present asked in
          let apart = apart_ranked x w plan before after sound ahead real was is covered present asked in
          let put_list = puts plan.moment plan.models in
          apply_opened plan
          (λ opened. filled_holds asked.restate asked.planned.forgets (apply_twins plan asked) covered apart.0 apart.1 (run raised put_list)
          (put_sound x w plan before after sound ahead real was is covered present asked)
          (subst (Shows after) (sym put.2) (raised_now x w plan before after sound ahead real was is)) put.1 put.3
          (promotes w.book plan) (promotes_elsewhere w s.object plan) (run w (opens plan)) (run-append raised put_list (forgetting plan.forgets)) opened)
          k

      pub run_holds : IsRunPlan after w.book plan → K w → HoldsAlong K w (runs after plan w)
      run_holds asked k =
          let put = put_there x w plan before after sound ahead real was is covered asked in
          run_opened plan
          (λ opened. filled_holds None asked.forgets (ran_twins plan asked) covered put.0 put.1 raised (raised_sound x w plan before after sound ahead real was is)
          (raised_now x w plan before after sound ahead real was is) (put.2 raised refl refl refl) refl
          [] tt (run w (run_opens plan)) refl opened)
          k
