-- Once the models of a plan are put, they are made and filled, and then up to date.
use Rattle.std.proofs.Common.{◌≡◌, List, [], ◌++◌, sym, ap, ◌∙◌, subst}
use Rattle.std.specs.List.{AllByRecursion}
use Rattle.std.specs.declared.option.Option.{Option}
use Rattle.mesh_base.specs.declared.forgets.Restate.{Restate}
use Rattle.mesh_base.specs.declared.snapshots.Snapshot.{Snapshot}
use Rattle.mesh_house_book.specs.declared.book.Book.{Book}
use Rattle.mesh_spec_model.specs.Horizons.{Clock, Shows}
use Rattle.mesh_house.specs.Step.{run}
use Rattle.mesh_house.specs.declared.world.Change.{Change}
use Rattle.mesh_house.specs.declared.world.World.{World}
use Rattle.mesh_house.proofs.Runs.{run-append}
use Rattle.mesh_spec_changes.specs.due.Dues.{again}
use Rattle.mesh_spec_changes.specs.due.Parts.{Parts}
use Rattle.mesh_spec_changes.specs.Changes.{Plan, executes, forgetting}
use Rattle.mesh_spec_promise.specs.Current.{IsReadable}
use Rattle.mesh_spec_promise.specs.Histories.{IsCovered, left}
use Rattle.mesh_spec_promise.specs.Sound.{IsBookSound, Sound}
use Rattle.mesh_law_changes.specs.along.Ready.{AreApart, AreRanked, ArePut, IsFilled, IsPlaced, IsReady}
use Rattle.mesh_law_steps.proofs.opens.Ready.{opened_ready}
use Rattle.mesh_law_promise.proofs.InTurn.{all_filled}
use Rattle.mesh_law_audit.proofs.Readable.{all_readable}

-- Some changes are made, whatever comes last, and leave the models up to date and the sources as they were.
pub record IsExecuted (clock : Clock) (b : Book) (plan : Plan) (u : World) : Type 0 where
  pub made : List Change
  pub changes : (last : List Change) → executes clock b plan.forgets plan.models last plan.models (run u (forgetting plan.forgets)) ≡ made ++ last
  pub doubt : Parts
  pub sound : Sound doubt (run u (forgetting plan.forgets ++ made))
  pub now : Shows clock (run u (forgetting plan.forgets ++ made)).book.moment
  pub sources : (run u (forgetting plan.forgets ++ made)).sources ≡ u.sources
  pub models : AllByRecursion (IsReadable clock doubt (run u (forgetting plan.forgets ++ made)).book) plan.models

module _ (clock : Clock) (b : Book) (plan : Plan) (u : World) where
  abbrev opened : World
  opened = run u (forgetting plan.forgets)

  filled_so : (y : Parts) → IsReady clock b plan.forgets plan.models y opened → opened.sources ≡ u.sources
      → (made : List Change) → ((last : List Change) → executes clock b plan.forgets plan.models last plan.models opened ≡ made ++ last)
      → IsFilled clock plan.models opened.book (left made y) (run opened made) → (run opened made).sources ≡ opened.sources → IsExecuted clock b plan u
  filled_so y ready its made changes filled same =
      let doubt = left made y in
      let v = run opened made in
      let ends : run u (forgetting plan.forgets ++ made) ≡ v = run-append u (forgetting plan.forgets) made in
      let placed : AllByRecursion (IsPlaced plan.models v.book.snapshots) plan.models = subst (λ (l : List Snapshot). AllByRecursion (IsPlaced plan.models l) plan.models) (sym filled.snapshots) ready.placed in
      record {
        made = made;
        changes = changes;
        doubt = doubt;
        sound = subst (Sound doubt) (sym ends) filled.sound;
        now = subst (λ (o : World). Shows clock o.book.moment) (sym ends) (subst (Shows clock) (sym filled.moment) ready.moment);
        sources = ap (λ (o : World). o.sources) ends ∙ same ∙ its;
        models = subst (λ (o : World). AllByRecursion (IsReadable clock doubt o.book) plan.models) (sym ends)
            (all_readable clock plan.models doubt v.book [] plan.models (λ q i. absurd i) ready.ranked placed filled.done);
      }

  pub plan_executed : (restate : Option Restate) (x : Parts) → IsBookSound b → Sound x u → Shows clock u.book.moment → ArePut b plan.models u → plan.forgets ≡ again clock b restate plan.models
      → AreApart plan.models → AreRanked plan.models [] plan.models → IsCovered clock b plan x → IsExecuted clock b plan u
  plan_executed restate x book_sound sound now put again_is apart ranked covered =
      let (along, ready, environments, moment, its) = opened_ready clock b plan.forgets plan.models restate x u book_sound sound now put again_is apart ranked covered in
      let (made, changes, filled_along, filled, same) = all_filled clock b plan.forgets plan.models (left (forgetting plan.forgets) x) opened ready in
      filled_so (left (forgetting plan.forgets) x) ready its made changes filled same
