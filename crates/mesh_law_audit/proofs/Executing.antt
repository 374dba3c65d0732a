-- After the execution of an apply its models are up to date, and so they are after a run.
use Rattle.std.proofs.Common.{◌≡◌, true, List, [], ◌∷◌, ◌++◌, refl, sym, ap, ◌∙◌, subst}
use Rattle.std.specs.List.{AllByRecursion}
use Rattle.std.specs.declared.option.Option.TheVariants.{None}
use Rattle.std.proofs.lemmas.List.{append-nil, append_assoc}
use Rattle.mesh_list.proofs.Ascends.{and_left, and_right}
use Rattle.mesh_spec_model.specs.Horizons.{Clock, Shows}
use Rattle.mesh_house.specs.Step.{run, step}
use Rattle.mesh_house.specs.declared.world.Change.{Change}
use Rattle.mesh_house.specs.declared.world.Change.TheVariants.{Moment, PutSnapshot}
use Rattle.mesh_house.specs.declared.world.World.{World}
use Rattle.mesh_house.proofs.Runs.{run-append}
use Rattle.mesh_spec_changes.specs.due.Parts.{Parts, either}
use Rattle.mesh_spec_changes.specs.due.Plans.{Planned}
use Rattle.mesh_spec_changes.specs.Changes.{Plan, executes, forgetting, opens, puts, runs, snapshot_of}
use Rattle.mesh_spec_changes.specs.Commands.{Apply, RunAll, is_not_behind, is_present}
use Rattle.mesh_spec_promise.specs.Current.{IsReadable}
use Rattle.mesh_spec_promise.specs.Histories.{IsApplied}
use Rattle.mesh_spec_promise.specs.Moved.{moved}
use Rattle.mesh_spec_promise.specs.Sound.{Sound}
use Rattle.mesh_law_changes.proofs.along.Along.{along_end, left_same}
use Rattle.mesh_law_promise.proofs.Applying.{apart_ranked, put_there, puts_made, raised_now, raised_sound}
use Rattle.mesh_law_promise.proofs.Promise.{shows_raised}
use Rattle.mesh_law_audit.specs.Execution.{Begins, execution}
use Rattle.mesh_law_audit.proofs.Filling.{IsExecuted, plan_executed}

-- the models of a plan are up to date in a world, which has these sources
pub record AreLeft (clock : Clock) (plan : Plan) (w v : World) : Type 0 where
  pub doubt : Parts
  pub sound : Sound doubt v
  pub now : Shows clock v.book.moment
  pub sources : v.sources ≡ w.sources
  pub models : AllByRecursion (IsReadable clock doubt v.book) plan.models

module _ (before after : Clock) (x : Parts) (w : World) (plan : Plan) (h : Begins before after x w (Apply plan)) where
  abbrev its : IsApplied after w plan
  its = h.asked_for.asked

  abbrev doubts : Parts
  doubts = either x (moved w before after w.sources)

  abbrev raised : World
  raised = step w (Moment plan.moment)

  abbrev put_list : List Change
  put_list = puts plan.moment plan.models

  abbrev put_world : World
  put_world = run raised put_list

  present : is_present w.book ≡ true
  present = and_left (is_present w.book) _ h.allowed

  filled : IsExecuted after w.book plan put_world
  filled =
      let ahead = and_right (is_present w.book) _ h.allowed in
      let is = shows_raised before after w (Apply plan) h.asked_for h.allowed in
      let put = puts_made x w plan before after h.sound ahead its.moment h.asked_for.was is h.settles present its in
      let ranked = apart_ranked x w plan before after h.sound ahead its.moment h.asked_for.was is h.settles present its in
      let now = raised_now x w plan before after h.sound ahead its.moment h.asked_for.was is in
      let sound : Sound doubts put_world =
      subst (λ (y : Parts). Sound y put_world) (left_same (λ (p : Planned). PutSnapshot (snapshot_of plan.moment plan.models p)) (λ p q. refl) plan.models doubts) (along_end doubts raised put_list put.0) in
      plan_executed after w.book plan put_world its.restate doubts h.sound.book sound (subst (Shows after) (sym put.2) now) put.1 its.planned.forgets ranked.0 ranked.1 h.settles

  put_sources : put_world.sources ≡ w.sources
  put_sources =
      let ahead = and_right (is_present w.book) _ h.allowed in
      let is = shows_raised before after w (Apply plan) h.asked_for h.allowed in
      (puts_made x w plan before after h.sound ahead its.moment h.asked_for.was is h.settles present its).3

  abbrev fills_list : List Change
  fills_list = forgetting plan.forgets ++ filled.made

  abbrev list : List Change
  list = Moment plan.moment ∷ (put_list ++ fills_list)

  -- whatever comes last
  list_is : (last : List Change) → opens plan ++ executes after w.book plan.forgets plan.models last plan.models (run w (opens plan)) ≡ list ++ last
  list_is last =
      ap (λ (l : List Change). Moment plan.moment ∷ l)
      (append_assoc put_list (forgetting plan.forgets) _
      ∙ ap (λ (v : World). put_list ++ (forgetting plan.forgets ++ executes after w.book plan.forgets plan.models last plan.models v)) (run-append raised put_list (forgetting plan.forgets))
      ∙ ap (λ (l : List Change). put_list ++ (forgetting plan.forgets ++ l)) (filled.changes last)
      ∙ ap (λ (l : List Change). put_list ++ l) (sym (append_assoc (forgetting plan.forgets) filled.made last))
      ∙ sym (append_assoc put_list fills_list last))

  execution_is : execution after plan w ≡ list
  execution_is = list_is [] ∙ append-nil list

  ends : run w (execution after plan w) ≡ run put_world fills_list
  ends = ap (run w) execution_is ∙ run-append raised put_list fills_list

  -- they are up to date then
  pub apply_executed : AreLeft after plan w (run w (execution after plan w))
  apply_executed =
      subst (AreLeft after plan w) (sym ends)
      (record { doubt = filled.doubt; sound = filled.sound; now = filled.now; sources = filled.sources ∙ put_sources; models = filled.models })

module _ (before after : Clock) (x : Parts) (w : World) (plan : Plan) (h : Begins before after x w (RunAll plan)) where
  abbrev at_its_moment : World
  at_its_moment = step w (Moment plan.moment)

  run_filled : IsExecuted after w.book plan at_its_moment
  run_filled =
      let (real, its) = h.asked_for.asked in
      let ahead = and_left (is_not_behind plan.moment w.book) _ (and_right (is_present w.book) _ h.allowed) in
      let is = shows_raised before after w (RunAll plan) h.asked_for h.allowed in
      let put = put_there x w plan before after h.sound ahead real h.asked_for.was is h.settles its in
      plan_executed after w.book plan at_its_moment None (either x (moved w before after w.sources)) h.sound.book (raised_sound x w plan before after h.sound ahead real h.asked_for.was is)
      (raised_now x w plan before after h.sound ahead real h.asked_for.was is) (put.2 at_its_moment refl refl refl) its.forgets put.0 put.1 h.settles

  runs_are : runs after plan w ≡ Moment plan.moment ∷ (forgetting plan.forgets ++ run_filled.made)
  runs_are = ap (λ (l : List Change). Moment plan.moment ∷ (forgetting plan.forgets ++ l)) (run_filled.changes [] ∙ append-nil run_filled.made)

  -- after a run they are
  pub run_executed : AreLeft after plan w (run w (runs after plan w))
  run_executed =
      subst (AreLeft after plan w) (sym (ap (run w) runs_are))
      (record { doubt = run_filled.doubt; sound = run_filled.sound; now = run_filled.now; sources = run_filled.sources; models = run_filled.models })
