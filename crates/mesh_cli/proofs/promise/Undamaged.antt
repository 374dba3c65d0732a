-- No command tells of a sound world that it is damaged.
use Rattle.std.proofs.Common.{◌≡◌, inl, inr, ℕ, ℤ, Bool, true, false, cond, List, Option, Some, None, Ok, Err, Result, if◌then◌else◌, refl, sym, ap, subst, ◌∙◌}
use Rattle.std.specs.Prelude.{◌&&◌}
use Rattle.std.specs.Option.{ForSome}
use Rattle.mesh_list.proofs.Ascends.{and_left}
use Rattle.mesh_base_values.specs.declared.values.Column.{Column}
use Rattle.mesh_base_values.specs.declared.values.Name.{Name}
use Rattle.mesh_query_tokens.specs.declared.faults.FaultKind.TheVariants.{FingerprintClash}
use Rattle.mesh_base.specs.declared.definitions.Decl.{Decl}
use Rattle.mesh_base.specs.declared.forgets.Restate.{Restate}
use Rattle.mesh_base.specs.declared.snapshots.Node.{Node}
use Rattle.mesh_base.specs.declared.rules.plans.Plan.{Plan as Made}
use Rattle.mesh_base.specs.rules.Seen.{has_column}
use Rattle.mesh_time_days.specs.Moments.{IsMoment}
use Rattle.mesh_house_book.specs.WellFormed.{book_fault, is_moment, is_version}
use Rattle.mesh_house_book.specs.declared.book.Book.{Book}
use Rattle.mesh_spec_model.specs.Closures.{closures}
use Rattle.mesh_spec_model.proofs.Clocks.{shown}
use Rattle.mesh_io.specs.declared.files.File.{File}
use Rattle.mesh_house.specs.Step.{run}
use Rattle.mesh_house.specs.declared.world.World.{World}
use Rattle.mesh_project_files.specs.Project.{sources_in}
use Rattle.mesh_trace.specs.declared.traces.Trace.{Trace as Traced}
use Rattle.mesh_spec_changes.specs.due.Parts.{Parts}
use Rattle.mesh_spec_changes.specs.Changes.{opens, run_opens}
use Rattle.mesh_spec_changes.specs.Environments.{env_at}
use Rattle.mesh_layer.specs.Shows.{Tells}
use Rattle.mesh_spec_promise.specs.Sound.{Sound}
use Rattle.mesh_law_promise.proofs.formed.Commands.{applies_whole, runs_whole}
use Rattle.mesh_cli_print.specs.faults.Lines.{name_text}
use Rattle.mesh_cli_print.specs.declared.printed.refusals.Refusal.{Refusal}
use Rattle.mesh_cli_print.specs.declared.printed.refusals.Refusal.TheVariants as refusal
use Rattle.mesh_category.specs.declared.versions.faults.PlanFault.{PlanFault}
use Rattle.mesh_category.specs.declared.versions.faults.PlanFault.TheVariants as fault
use Rattle.mesh_plan.specs.Plans.{promised}
use Rattle.mesh_exec.specs.Planned.{as_planned}
use Rattle.mesh_exec.proofs.Books.{opens_same}
use Rattle.mesh_cli_answer.specs.Answers.{is_fault}
use Rattle.mesh_cli_answer.specs.Present.{IsBroken, IsNotPresent}
use Rattle.mesh_cli_apply.specs.Applying.{ApplyGives, IsHeld, PlanGives, RunGives}
use Rattle.mesh_cli_apply.specs.Loaded.{OfProject}
use Rattle.mesh_cli_apply.specs.Planning.{IsPlanned, IsRunPlanned, PlanRefused, RunRefused, no_model, of_plan}
use Rattle.mesh_cli_apply.specs.Tracing.{ImpactOf, IsImpactOf, IsTraceOf, Lists, TraceOf, found, model_columns, no_column, or_declared}
use Rattle.mesh_cli_apply.proofs.Promised.{plan_is_of, run_is_of}
use Rattle.mesh_cli_look.specs.asking.Evaluated.{days}
use Rattle.mesh_cli_look.specs.upkeep.Ingesting.{IngestGives, other_shape}
use Rattle.mesh_cli_look.specs.upkeep.Upkeep.{InvalidateRefused, JanitorRefused}
use Rattle.mesh_cli_words.specs.declared.line.Command.{Command}
use Rattle.mesh_cli_words.specs.declared.line.Command.TheVariants.{Plan, Apply, Run, Evaluate, Fetchdf, Ingest, Janitor, Invalidate, Migrate, Trace, Impact, Batch, Demo}
use Rattle.mesh_cli.specs.cli.Asked.{AppliesGive, Gives}
use Rattle.mesh_cli.specs.cli.Ends.{Commanded}
use Rattle.mesh_cli.specs.cli.Sides.{Sides}
use Rattle.mesh_cli.proofs.promise.Asked.{apply_allowed, run_allowed, run_of}
use Rattle.mesh_cli.proofs.promise.Calling.{apply_met, run_met}
use Rattle.mesh_cli.proofs.promise.Dangling.{never}
use Rattle.mesh_cli.proofs.promise.Forming.{moment_says}
use Rattle.mesh_cli.specs.promise.Stages.{tells_of_damage}
use Rattle.mesh_cli.proofs.promise.Looked.{Quiet, evaluated_quiet, fetched_quiet, no_breach}

-- what tells of damage is no fault of the warehouse or of memory
no_fault : (why : Refusal) → tells_of_damage why ≡ true → is_fault why ≡ false
no_fault (refusal.BookBroken part place) damage = refl
no_fault (refusal.ObjectMissing object) damage = refl
no_fault (refusal.Model file at kind) damage = refl
no_fault refusal.Usage damage = refl
no_fault refusal.Warehouse damage = cc
no_fault refusal.Memory damage = cc
no_fault refusal.Input damage = cc
no_fault (refusal.MomentBehind given kept) damage = refl
no_fault (refusal.EnvUnknown env) damage = refl
no_fault (refusal.EnvPending env) damage = refl
no_fault (refusal.StateOld version) damage = refl

-- of a book that breaks no rule
module _ (b : Book) (fit : book_fault b ≡ None) (why : Refusal) (damage : tells_of_damage why ≡ true) where
  -- what is told of otherwise is none
  differs : (other : Refusal) → tells_of_damage other ≡ false → why ≡ other → ⊥
  differs other none same = let clash : true ≡ false = sym damage ∙ ap tells_of_damage same ∙ none in cc

  not_broken : IsBroken b why → ⊥
  not_broken h = let clash : None ≡ Some h.fault = sym fit ∙ h.first in cc

  -- a book that isn't as it has to be
  not_present : IsNotPresent b why → ⊥
  not_present (inl h) = not_broken h
  not_present (inr h) = differs (refusal.StateOld b.version) refl h.told

  -- a fault of a plan
  of_plan_quiet : (env : List ℕ) (fault : PlanFault) → why ≡ of_plan env fault → ⊥
  of_plan_quiet env (fault.Model name kind) h = differs (refusal.Model (name_text name) 0 kind) refl h
  of_plan_quiet env (fault.Moment given kept) h = differs (refusal.MomentBehind given kept) refl h
  of_plan_quiet env fault.EnvUnknown h = differs (refusal.EnvUnknown env) refl h
  of_plan_quiet env fault.EnvPending h = differs (refusal.EnvPending env) refl h
  of_plan_quiet env fault.Memory h = differs refusal.Memory refl h

  -- why a plan is refused, or a run
  plan_refused : (nodes : List Node) (env : List ℕ) (t : ℤ) (again : Option Restate) → PlanRefused b nodes env t again why → ⊥
  plan_refused nodes env t again (inl h) = not_present h
  plan_refused nodes env t again (inr (inl h)) = of_plan_quiet env h.why h.told
  plan_refused nodes env t again (inr (inr h)) = differs (no_model h.stray.restate.name) refl h.stray.told

  run_refused : (env : List ℕ) (t : ℤ) → RunRefused b env t why → ⊥
  run_refused env t (inl h) = not_present h
  run_refused env t (inr h) = of_plan_quiet env h.why h.told

  -- or a sweep, or what makes an environment go
  janitor_refused : (t : ℤ) → JanitorRefused t b why → ⊥
  janitor_refused t (inl h) = not_present h
  janitor_refused t (inr h) = differs (refusal.MomentBehind t b.moment) refl h.told

  invalidate_refused : (env : List ℕ) → InvalidateRefused env b why → ⊥
  invalidate_refused env (inl h) = not_present h
  invalidate_refused env (inr h) = differs (refusal.EnvUnknown env) refl h.told

  -- or loading a source
  ingest_refused : (files : Option (List File)) (dir : List ℕ) (name : Name) (file : List ℕ) (keep : Bool) (w : World) → IngestGives files dir name file keep w (Err why) → ⊥
  ingest_refused files dir name file keep w (inl h) = differs (other_shape name) refl h.has.1
  ingest_refused files dir name file keep w (inr h) = differs (refusal.Model h.path h.at h.kind) refl h.told

  -- or a list of columns
  lists_quiet : (is : List Traced → Type 0) (name : Name) (column : List ℕ) (columns : Option (List Column)) → Lists (found name column columns) is (Err why) → ⊥
  lists_quiet is name column None h = differs (no_model name) refl (let both : Err why ≡ Err (no_model name) = h in cc)
  lists_quiet is name column (Some columns) h = by_test (has_column columns column) h
    where
      by_test : (b : Bool) → Lists (if b then Ok tt else Err (no_column column)) is (Err why) → ⊥
      by_test true k = k
      by_test false k = differs (no_column column) refl (let both : Err why ≡ Err (no_column column) = k in cc)

  -- of a project, only what is told of its models does so
  of_project : (files : Option (List File)) (dir : List ℕ) (gives : List Node → Result (List ℕ) Refusal → Type 0) → ((nodes : List Node) → gives nodes (Err why) → ⊥) → OfProject files dir gives (Err why) → ⊥
  of_project files dir gives none (inl h) = none h.project.nodes h.has
  of_project files dir gives none (inr h) = differs (refusal.Model h.file h.at h.kind) refl h.told

module _ (x : Parts) (w : World) (sound : Sound x w) (why : Refusal) (damage : tells_of_damage why ≡ true) where
  fit : book_fault w.book ≡ None
  fit = no_breach w.book sound.book.well_formed

  -- the book's moment is one of the calendar
  its_moment : IsMoment w.book.moment
  its_moment = moment_says w.book.moment (and_left (is_moment w.book.moment) (is_version w.book.version) (and_left (is_moment w.book.moment && is_version w.book.version) _ sound.book.well_formed))

  module _ (t : ℤ) (real : IsMoment t) where
    -- no model of a plan reads an object that is lost
    apply_held : (nodes : List Node) (env : List ℕ) (again : Option Restate) (p : Made) → IsPlanned w.book nodes env t again p → IsHeld p w why → ⊥
    apply_held nodes env again p planned (inl h) = differs w.book fit why damage (refusal.Model (name_text h.lack.model) 0 h.lack.kind) refl h.told
    apply_held nodes env again p planned (inr h) =
        let (before, was) = shown w.book.moment its_moment in
        let (after, is) = shown t real in
        let (list, whole) = applies_whole x w (promised p) before after (apply_met before after x w was t real is nodes env again p planned) (apply_allowed w nodes env t again p planned) sound in
        never p w (run w h.made) h.object h.lost.reached after w.book (plan_is_of w.book nodes env t again p planned.plan after is) (opens (promised p))
        (opens_same p ∙ (λ i. cond (planned.plan.runs i) (run_opens (as_planned p)) (opens (as_planned p)))) list whole

    run_held : (env : List ℕ) (p : Made) → IsRunPlanned w.book env t p → IsHeld p w why → ⊥
    run_held env p planned (inl h) = differs w.book fit why damage (refusal.Model (name_text h.lack.model) 0 h.lack.kind) refl h.told
    run_held env p planned (inr h) =
        let (before, was) = shown w.book.moment its_moment in
        let (after, is) = shown t real in
        let (e, known, of) = run_of w.book env t p (env_at w.book env) refl planned.plan in
        let (list, whole) = runs_whole x w (promised p) before after (run_met before after x w was t real is env p planned) (run_allowed w env t p planned) sound in
        never p w (run w h.made) h.object h.lost.reached after w.book (run_is_of w.book env e t p of after is) (run_opens (promised p))
        (opens_same p ∙ (λ i. cond (of.runs i) (run_opens (as_planned p)) (opens (as_planned p)))) list whole

    -- so neither an apply tells of one nor a run
    apply_quiet : (nodes : List Node) (env : List ℕ) (again : Option Restate) → ApplyGives nodes env t again w (Err why) → ⊥
    apply_quiet nodes env again (inl h) = plan_refused w.book fit why damage nodes env t again h
    apply_quiet nodes env again (inr (p, planned, held)) = apply_held nodes env again p planned held

    run_quiet : (env : List ℕ) → RunGives env t w (Err why) → ⊥
    run_quiet env (inl h) = run_refused w.book fit why damage env t h
    run_quiet env (inr (p, planned, held)) = run_held env p planned held

  applies_quiet : (dir : List ℕ) (s : Sides) (env : List ℕ) (moment : Option ℤ) (again : Option Restate) → AppliesGive dir s env moment again w (Err why) → ⊥
  applies_quiet dir s env moment again (t, at, real, of) = of_project w.book fit why damage s.folder.files dir (λ nodes. ApplyGives nodes env t again w) (λ nodes. apply_quiet t real nodes env again) of

  -- nor any other command
  quiet : (dir : List ℕ) (s : Sides) (c : Command) → Gives dir s c w (Err why) → ⊥
  quiet dir s (Plan env true workers moment again) h = applies_quiet dir s env moment again h
  quiet dir s (Plan env false workers moment again) (t, at, real, of) =
      of_project w.book fit why damage s.folder.files dir (λ nodes. PlanGives nodes env t again w) (λ nodes. plan_refused w.book fit why damage nodes env t again) of
  quiet dir s (Apply env workers moment again) h = applies_quiet dir s env moment again h
  quiet dir s (Run env workers moment) (t, at, real, h) = run_quiet t real env h
  quiet dir s (Evaluate model env first last) h = subst Quiet (sym h) (evaluated_quiet x w sound env model (days first last)) damage
  quiet dir s (Fetchdf query env) (tree, read, h) = subst Quiet (sym h) (fetched_quiet x w sound env query tree) damage
  quiet dir s (Ingest name file append) h = ingest_refused w.book fit why damage s.folder.files dir name file append w h
  quiet dir s (Janitor moment) (t, at, real, h) = janitor_refused w.book fit why damage t h
  quiet dir s (Invalidate env) h = invalidate_refused w.book fit why damage env h
  quiet dir s Migrate (inl h) = not_broken w.book fit why damage h
  quiet dir s Migrate (inr h) = differs w.book fit why damage (refusal.Model (name_text h.name) 0 (FingerprintClash h.stored h.given)) refl h.told
  quiet dir s (Trace model column) h =
      of_project w.book fit why damage s.folder.files dir (λ nodes. TraceOf nodes model column) (λ nodes. lists_quiet w.book fit why damage (IsTraceOf (closures nodes) model column) model column (model_columns nodes model)) h
  quiet dir s (Impact name column) h =
      of_project w.book fit why damage s.folder.files dir (λ nodes told. (sources : List Decl) × ForSome s.folder.files (λ fs. sources_in fs dir ≡ Ok sources) × ImpactOf sources nodes name column told)
      (λ nodes all. lists_quiet w.book fit why damage (IsImpactOf (closures nodes) name column) name column (or_declared (model_columns nodes name) all.0 name) all.2) h
  quiet dir s Batch h = differs w.book fit why damage refusal.Usage refl (let both : Err why ≡ Err refusal.Usage = h in cc)
  quiet dir s (Demo n workers) h = h

pub never_damaged : (dir : List ℕ) (s : Sides) (c : Command) (x : Parts) (w : World) → Sound x w → (why : Refusal) → tells_of_damage why ≡ true → Gives dir s c w (Err why) → ⊥
never_damaged dir s c x w sound why damage h = quiet x w sound why damage dir s c h

-- so none answers so
pub never_answered : (dir : List ℕ) (c : Command) (old new : Sides) (why : Refusal) → tells_of_damage why ≡ true → Commanded dir c old new (Err why) → (x : Parts) (w : World) → Tells old.house w → Sound x w → ⊥
never_answered dir c old new why damage commanded x w told sound = never_damaged dir old c x w sound why damage (commanded.house.given w told (no_fault why damage))
