-- An apply and a run, step by step: what is answered where one stops, of the world before its first step.
use Rattle.std.proofs.Common.{◌≡◌, ◌⊎◌, ℕ, ℤ, inl, List, [], ◌++◌, sym, ◌∙◌, subst, true, Ok, Err, Result, IsErrAnd}
use Rattle.std.specs.declared.option.Option.{Option}
use Rattle.mesh_list.specs.Counts.{Rose}
use Rattle.mesh_base.specs.declared.forgets.Restate.{Restate}
use Rattle.mesh_base.specs.declared.rules.plans.Plan.{Plan}
use Rattle.mesh_base.specs.declared.snapshots.Node.{Node}
use Rattle.mesh_base.specs.declared.snapshots.Ref.{Ref}
use Rattle.mesh_base.specs.rules.Proper.{ProjectNodes, is_proper}
use Rattle.mesh_base_values.specs.declared.values.Name.{Name}
use Rattle.mesh_time_days.specs.Moments.{IsMoment}
use Rattle.mesh_house_book.specs.declared.book.Book.{Book}
use Rattle.mesh_house.specs.House.{Told}
use Rattle.mesh_io.specs.Told.{FolderTold}
use Rattle.mesh_project_files.specs.Loading.{AsksAs}
use Rattle.mesh_project.specs.project.Project.{IsLoaded}
use Rattle.mesh_spec_changes.specs.Changes.{objects_by_name, refs_by_name}
use Rattle.mesh_spec_changes.specs.Commands.{Apply, RunAll}
use Rattle.mesh_spec_changes.specs.Environments.{env_at}
use Rattle.mesh_plan.specs.Plans.{promised}
use Rattle.mesh_exec_works.specs.Executable.{IsExecutable}
use Rattle.mesh_exec.specs.Planned.{planned_models}
use Rattle.mesh_exec.proofs.plans.Executable.{run_executable}
use Rattle.mesh_janitor.specs.promote.Promotion.{paired, promotion}
use Rattle.mesh_cli_print.specs.plans.PlanText.{plan_text}
use Rattle.mesh_cli_print.specs.printed.Reports.{applied_line, ran_line}
use Rattle.mesh_cli_print.specs.declared.printed.refusals.Refusal.{Refusal}
use Rattle.mesh_cli_print.specs.declared.printed.refusals.Refusal.TheVariants.{Memory}
use Rattle.mesh_cli_answer.specs.Answers.{Answers, no_changes}
use Rattle.mesh_cli_answer.specs.Present.{ReadsPresent}
use Rattle.mesh_cli_answer.proofs.Answering.{not_present, read_first}
use Rattle.mesh_cli_apply.specs.Applying.{ApplyGives, ApplyMakes, PlanGives, RunGives, RunMakes}
use Rattle.mesh_cli_apply.specs.Loaded.{IsProject, LoadsProject, OfProject}
use Rattle.mesh_cli_apply.specs.Made.{ApplyTells, HasBook, IsPlanFor, MakesBy, RunTells}
use Rattle.mesh_cli_apply.specs.Making.{ExecutesPlan, MakesAll, Promotes}
use Rattle.mesh_cli_apply.specs.Planning.{IsPlanned, IsRunPlanned, PlanRefused, RunRefused}
use Rattle.mesh_cli_apply.proofs.Loading.{given_loaded, made_loaded, not_loaded}
use Rattle.mesh_cli_apply.proofs.Making.{applied, planned_applied, planned_ran, ran, run_unplanned, stopped, unplanned, untold}
use Rattle.mesh_cli_apply.proofs.Promised.{before_promotion, may_be_made, of_run, of_run_alone, rest, with_views}
use Rattle.mesh_cli_apply.proofs.Refusing.{looked}
use Rattle.mesh_cli_apply.proofs.Whole.{wanting, with_promotion, ran as all_ran, stopped as cut_short}

has_book : (a m : Told) (b : Book) → ReadsPresent a m (Ok b) → HasBook b m
has_book a m b reads w told = sym (reads.book w (sym reads.alone.world ∙ told))

plan_for : (b : Book) (nodes : List Node) (env : List ℕ) (t : ℤ) (again : Option Restate) (p : Plan) → IsMoment t → IsPlanned b nodes env t again p → IsPlanFor b p
plan_for b nodes env t again p moment is = (nodes, env, t, again, moment, subst (λ (ns : List Node). is_proper ns ≡ true) (sym is.plan.project_is) is.proper, is.plan)

pub plan_may_be_made : (b : Book) (nodes : List Node) (env : List ℕ) (t : ℤ) (again : Option Restate) (p : Plan) → IsMoment t → IsPlanned b nodes env t again p → IsExecutable p
plan_may_be_made b nodes env t again p moment is = may_be_made b is.present p (plan_for b nodes env t again p moment is)

pub run_may_be_made : (b : Book) (env : List ℕ) (t : ℤ) (p : Plan) → IsMoment t → IsRunPlanned b env t p → is_proper p.project.nodes ≡ true → IsExecutable p
run_may_be_made b env t p moment is proper = run_executable b env (env_at b env) t p moment proper is.plan

-- what is handed on is what was told
pub handed : {T : Type 0} (says : Result T Refusal → Type 0) (r : Result T Refusal) (e : Refusal) → IsErrAnd r (λ f. f ≡ e) → says (Err e) → says r
handed says (Ok x) e is by = absurd is
handed says (Err f) e is by = subst (λ (k : Refusal). says (Err k)) (sym is) by

-- where a plan that is printed stops
module _ (dir : List ℕ) (env : List ℕ) (t : ℤ) (again : Option Restate) (old new : FolderTold) (a : Told) where
  abbrev pub Prints : Told → Result (List ℕ) Refusal → Type 0
  Prints z r = Answers (Rose old.faults new.faults) no_changes (λ w. OfProject old.files dir (λ nodes. PlanGives nodes env t again w)) a z r

  pub none_printed : (e : Refusal) → LoadsProject dir old new (Err e) → Prints a (Err e)
  none_printed e by = subst (λ (k : Refusal). Prints a (Err k)) (sym by.1) (not_loaded dir (λ nodes. PlanGives nodes env t again) old new a no_changes by.0 by.2)

  module _ (project : ProjectNodes) (loads : AsksAs {X = ProjectNodes} (λ fs. IsLoaded fs dir) old new (Ok project)) (m : Told) where
    pub no_book_printed : (r : Refusal) → ReadsPresent a m (Err r) → Prints m (Err r)
    no_book_printed r reads = given_loaded dir (λ nodes. PlanGives nodes env t again) old new a project loads m (Err r) no_changes
        (not_present no_changes (PlanGives project.nodes env t again) a m r reads (λ w told is. inl is))

    pub no_plan_printed : (b : Book) → ReadsPresent a m (Ok b) → (r : Refusal) → (r ≡ Memory) ⊎ PlanRefused b project.nodes env t again r → Prints m (Err r)
    no_plan_printed b reads r why = given_loaded dir (λ nodes. PlanGives nodes env t again) old new a project loads m (Err r) no_changes (looked project.nodes env t again a m b reads (Err r) tt why)

-- where an apply stops
module _ (dir : List ℕ) (env : List ℕ) (t : ℤ) (again : Option Restate) (old new : FolderTold) (a : Told) where
  abbrev pub Says : Told → Result (List ℕ) Refusal → Type 0
  Says z r = Answers (Rose old.faults new.faults) (λ w list. IsProject old.files dir (λ nodes. ApplyMakes nodes env t again w list)) (λ w. OfProject old.files dir (λ nodes. ApplyGives nodes env t again w)) a z r

  pub no_project : (e : Refusal) → LoadsProject dir old new (Err e) → Says a (Err e)
  no_project e by = subst (λ (k : Refusal). Says a (Err k)) (sym by.1)
      (not_loaded dir (λ nodes. ApplyGives nodes env t again) old new a (λ w list. IsProject old.files dir (λ nodes. ApplyMakes nodes env t again w list)) by.0 by.2)

  module _ (project : ProjectNodes) (loads : AsksAs {X = ProjectNodes} (λ fs. IsLoaded fs dir) old new (Ok project)) where
    so : (z : Told) (r : Result (List ℕ) Refusal) → Answers ⊥ (ApplyMakes project.nodes env t again) (ApplyGives project.nodes env t again) a z r → Says z r
    so z r by = made_loaded dir (λ nodes. ApplyGives nodes env t again) old new a project loads z r (λ nodes. ApplyMakes nodes env t again) by

    pub no_book : (m : Told) (r : Refusal) → ReadsPresent a m (Err r) → Says m (Err r)
    no_book m r reads = so m (Err r) (not_present (ApplyMakes project.nodes env t again) (ApplyGives project.nodes env t again) a m r reads (λ w told is. inl (inl is)))

    module _ (m : Told) (b : Book) (reads : ReadsPresent a m (Ok b)) where
      then_so : (z : Told) (r : Result (List ℕ) Refusal) → Answers ⊥ (ApplyMakes project.nodes env t again) (ApplyGives project.nodes env t again) m z r → Says z r
      then_so z r by = so z r (read_first (ApplyMakes project.nodes env t again) (ApplyGives project.nodes env t again) a m z reads.alone reads.faults r by)

      pub no_plan : (r : Refusal) → (r ≡ Memory) ⊎ PlanRefused b project.nodes env t again r → Says m (Err r)
      no_plan r why = then_so m (Err r) (unplanned b project.nodes env t again m (has_book a m b reads) r why)

      module _ (moment : IsMoment t) (p : Plan) (planned : IsPlanned b project.nodes env t again p) where
        of_plan : (z : Told) (r : Result (List ℕ) Refusal) → Answers ⊥ (MakesBy p (Apply (promised p))) (ApplyTells p) m z r → Says z r
        of_plan z r by = then_so z r (planned_applied b project.nodes env t again m (has_book a m b reads) p planned z r by)

        halted : (z : Told) (r : Refusal) → MakesAll p (Apply (promised p)) b m z (Err r) → Says z (Err r)
        halted z r by = of_plan z (Err r) (stopped p (Apply (promised p)) b (ApplyTells p) m z (has_book a m b reads) r by (λ w is. is))

        pub no_lists : Says m (Err Memory)
        no_lists = halted m Memory (wanting p (Apply (promised p)) b m)

        pub not_executed : (z : Told) (r : Refusal) → ExecutesPlan p m z (Err r) → Says z (Err r)
        not_executed z r by = halted z r (cut_short p (Apply (promised p)) b m z (rest b p) (before_promotion b planned.present p (plan_for b project.nodes env t again p moment planned)) by.0 r by.1 by.2)

        module _ (refs : List Ref) (objects : List Name) (listed : refs ≡ refs_by_name (planned_models p)) (paired_so : paired refs objects ≡ objects_by_name (planned_models p)) (n : ℕ) (z : Told) (executes : ExecutesPlan p m z (Ok n)) where
          whole : (end : Told) (r : Result ℕ Refusal) → Promotes (promotion b p.env refs objects p.moment) n z end r → MakesAll p (Apply (promised p)) b m end r
          whole end r promotes = with_promotion p (Apply (promised p)) b m z end executes.0 (promotion b p.env refs objects p.moment)
              (with_views b planned.present p (plan_for b project.nodes env t again p moment planned) refs objects listed paired_so) executes.2 r
              (subst (λ (k : ℕ). Promotes (promotion b p.env refs objects p.moment) k z end r) executes.1 promotes)

          pub not_promoted : (end : Told) (r : Refusal) → Promotes (promotion b p.env refs objects p.moment) n z end (Err r) → Says end (Err r)
          not_promoted end r promotes = halted end r (whole end (Err r) promotes)

          module _ (end : Told) (number : ℕ) (promotes : Promotes (promotion b p.env refs objects p.moment) n z end (Ok number)) where
            pub no_text : Says end (Err Memory)
            no_text = of_plan end (Err Memory) (untold p (Apply (promised p)) b (ApplyTells p) m end (has_book a m b reads) number (whole end (Ok number) promotes))

            pub all_done : (text : List ℕ) → text ≡ plan_text p ++ applied_line p.env number → Says end (Ok text)
            all_done text is = of_plan end (Ok text) (applied p b m end (has_book a m b reads) number text (whole end (Ok number) promotes) is)

-- where a run stops
module _ (env : List ℕ) (t : ℤ) (a : Told) where
  abbrev pub Runs : Told → Result (List ℕ) Refusal → Type 0
  Runs z r = Answers ⊥ (RunMakes env t) (RunGives env t) a z r

  pub no_run_book : (m : Told) (r : Refusal) → ReadsPresent a m (Err r) → Runs m (Err r)
  no_run_book m r reads = not_present (RunMakes env t) (RunGives env t) a m r reads (λ w told is. inl (inl is))

  module _ (m : Told) (b : Book) (reads : ReadsPresent a m (Ok b)) where
    then_runs : (z : Told) (r : Result (List ℕ) Refusal) → Answers ⊥ (RunMakes env t) (RunGives env t) m z r → Runs z r
    then_runs z r by = read_first (RunMakes env t) (RunGives env t) a m z reads.alone reads.faults r by

    pub no_run_plan : (r : Refusal) → (r ≡ Memory) ⊎ RunRefused b env t r → Runs m (Err r)
    no_run_plan r why = then_runs m (Err r) (run_unplanned b env t m (has_book a m b reads) r why)

    module _ (moment : IsMoment t) (p : Plan) (planned : IsRunPlanned b env t p) where
      of_run_plan : (z : Told) (r : Result (List ℕ) Refusal) → Answers ⊥ (MakesBy p (RunAll (promised p))) (RunTells p) m z r → Runs z r
      of_run_plan z r by = then_runs z r (planned_ran b env t m (has_book a m b reads) p planned z r by)

      pub not_run : (z : Told) (r : Refusal) → ExecutesPlan p m z (Err r) → Runs z (Err r)
      not_run z r by = of_run_plan z (Err r) (stopped p (RunAll (promised p)) b (RunTells p) m z (has_book a m b reads) r
          (cut_short p (RunAll (promised p)) b m z (λ w. []) (of_run_alone b planned.present p env t planned.plan) by.0 r by.1 by.2) (λ w is. is))

      module _ (n : ℕ) (z : Told) (executes : ExecutesPlan p m z (Ok n)) where
        made_all : MakesAll p (RunAll (promised p)) b m z (Ok n)
        made_all = subst (λ (k : ℕ). MakesAll p (RunAll (promised p)) b m z (Ok k)) (sym executes.1)
            (all_ran p (RunAll (promised p)) b m z executes.0 (of_run b planned.present p env t planned.plan) executes.2)

        pub no_run_text : Runs z (Err Memory)
        no_run_text = of_run_plan z (Err Memory) (untold p (RunAll (promised p)) b (RunTells p) m z (has_book a m b reads) n made_all)

        pub all_run : (text : List ℕ) → text ≡ plan_text p ++ ran_line p.env n → Runs z (Ok text)
        all_run text is = of_run_plan z (Ok text) (ran p b m z (has_book a m b reads) n text made_all is)
