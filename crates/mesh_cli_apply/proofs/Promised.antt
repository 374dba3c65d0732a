-- The changes of a plan are those that the promise has for its command.
use Rattle.std.proofs.Common.{◌≡◌, ℕ, ℤ, Bool, true, false, cond, not, List, [], ◌∷◌, ◌++◌, length, Some, None, refl, sym, ap, ◌∙◌, subst, arith, append_assoc, length-append}
use Rattle.std.specs.Prelude.{◌&&◌}
use Rattle.std.specs.Int.Signed.{lt_z}
use Rattle.std.specs.List.{AllByRecursion, AllZip}
use Rattle.std.specs.declared.option.Option.{Option}
use Rattle.std.proofs.lemmas.List.{append-nil}
use Rattle.std.proofs.lemmas.Bool.{and_from as where_all}
use Rattle.mesh_base_values.specs.declared.values.Name.{Name}
use Rattle.mesh_base.specs.declared.forgets.Restate.{Restate}
use Rattle.mesh_base.specs.declared.plans.Category.{Category}
use Rattle.mesh_base.specs.declared.plans.Entry.{Entry}
use Rattle.mesh_base.specs.declared.snapshots.Env.{Env}
use Rattle.mesh_base.specs.declared.snapshots.Node.{Node}
use Rattle.mesh_base.specs.declared.snapshots.Ref.{Ref}
use Rattle.mesh_base.specs.rules.Proper.{is_proper}
use Rattle.mesh_base.specs.declared.rules.plans.Plan.{Plan}
use Rattle.mesh_house_book.specs.declared.book.Book.{Book}
use Rattle.mesh_spec_model.specs.Horizons.{Clock, Shows}
use Rattle.mesh_house.specs.declared.world.Change.{Change}
use Rattle.mesh_house.specs.declared.world.World.{World}
use Rattle.mesh_house.specs.Step.{run}
use Rattle.mesh_house.specs.World.{version_of}
use Rattle.mesh_spec_changes.specs.due.Dues.{dues}
use Rattle.mesh_spec_changes.specs.due.Plans.{is_made, planned}
use Rattle.mesh_spec_changes.specs.Changes.{executes as book_executes, objects_by_name, opens, promotes, refs_by_name, run_opens}
use Rattle.mesh_spec_changes.specs.Commands.{Apply, RunAll, asked, is_final, is_not_behind, is_present}
use Rattle.mesh_spec_changes.specs.Environments.{env_at}
use Rattle.mesh_exec_works.specs.Executable.{IsExecutable}
use Rattle.mesh_exec_works.specs.Plain.{models, opened}
use Rattle.mesh_exec_works.specs.Works.{are_fit, parts}
use Rattle.mesh_exec.specs.Executed.{executed, executes, outline, parts_outline}
use Rattle.mesh_exec.specs.Planned.{IsOf, as_planned, planned_models}
use Rattle.mesh_exec.proofs.Books.{as_the_book_asks, ends, ends_as_the_book, opens_same}
use Rattle.mesh_exec.proofs.Fitting.{parts_fit}
use Rattle.mesh_plan.specs.Entries.{IsRecorded, entries_of}
use Rattle.mesh_plan.specs.Plans.{IsPlanOf, promised}
use Rattle.mesh_plan.specs.Running.{IsRunIn, IsRunOf}
use Rattle.mesh_exec.proofs.plans.Executable.{plan_executable}
use Rattle.mesh_janitor.specs.promote.Promotion.{paired, promotion}
use Rattle.mesh_janitor.proofs.promote.Left.{promotes_its_models}
use Rattle.mesh_cli_apply.specs.Applying.{AreOf}
use Rattle.mesh_cli_apply.specs.Made.{IsPlanFor}
use Rattle.mesh_cli_apply.proofs.Ends.{all_come, ends_are, tail}

-- entries know whether the book has their objects made
abbrev Know : Book → List Entry → Type 0
Know b es = AllByRecursion (λ (e : Entry). e.made ≡ is_made (version_of b e.object)) es

they_know : (b : Book) (ks : List Category) (os : List Name) → Know b (entries_of b ks os)
they_know b [] os = tt
they_know b (k ∷ ks) [] = tt
they_know b (k ∷ ks) (o ∷ os) = (refl, they_know b ks os)

recorded_know : (b : Book) (ns : List Node) (es : List Entry) → AllZip (IsRecorded b) ns es → Know b es
recorded_know b [] [] h = tt
recorded_know b [] (e ∷ es) h = absurd h
recorded_know b (n ∷ ns) [] h = absurd h
recorded_know b (n ∷ ns) (e ∷ es) h = (
  subst (λ (x : Entry). x.made ≡ is_made (version_of b x.object)) (sym h.0.is) refl,
  recorded_know b ns es h.1,
)

module _ (b : Book) (nodes : List Node) (env : List ℕ) (t : ℤ) (again : Option Restate) (p : Plan) (h : IsPlanOf b nodes env t again p) where
  plan_knows : Know b p.entries
  plan_knows = subst (Know b) (sym h.entries_are.are) (they_know b h.entries_are.categories h.entries_are.objects)

  -- what is due and what is made are what the book says
  pub plan_is_of : (clock : Clock) → Shows clock t → IsOf clock b p
  plan_is_of clock shows = record {
    due = h.dues_are clock shows ∙ ap (λ (ns : List Node). dues clock b p.forgets (planned ns p.entries)) (sym h.project_is);
    made = plan_knows;
  }

module _ (b : Book) (env : List ℕ) (e : Env) (t : ℤ) (p : Plan) (h : IsRunOf b env e t p) where
  pub run_is_of : (clock : Clock) → Shows clock t → IsOf clock b p
  run_is_of clock shows = record {
    due = h.dues_are clock shows ∙ ap (λ (ns : List Node). dues clock b p.forgets (planned ns p.entries)) (sym h.project_is);
    made = recorded_know b _ p.entries h.entries_are;
  }

-- a command that is allowed asks for its changes

allowed : (c : Bool) (list : List Change) → c ≡ true → list ≡ cond c list []
allowed c list is = λ i. cond (sym is i) list []

not_behind : (t m : ℤ) (b : Book) → m ≡ t → lt_z t b.moment ≡ false → is_not_behind m b ≡ true
not_behind t m b is ahead = ap (λ x. is_not_behind x b) is ∙ ap not ahead

-- a plan's models, once its first changes are made, and the promise's last ones
abbrev pub rest : Book → Plan → World → List Change
rest b p w = tail (models p) (promotes b (promised p)) (parts p) (run w (opened p))

module _ (b : Book) (present : is_present b ≡ true) (p : Plan) where
  applies_are : (clock : Clock) → IsOf clock b p → p.run ≡ false → (w : World) → executed p w ++ rest b p w ≡ opens (promised p) ++ book_executes clock b p.forgets (planned_models p) (promotes b (promised p)) (planned_models p) (run w (opens (promised p)))
  applies_are clock is no_run w =
      let last = promotes b (promised p) in
      let v = run w (opened p) in
      let first : opened p ≡ opens (promised p) = opens_same p ∙ (λ i. cond (no_run i) (run_opens (as_planned p)) (opens (as_planned p))) in
      append_assoc (opened p) (executes (models p) (parts p) v) (tail (models p) last (parts p) v)
      ∙ ap (λ (l : List Change). opened p ++ l) (sym (ends_are (models p) last (parts p) v))
      ∙ (λ i. first i ++ ends (models p) last (parts p) (run w (first i)))
      ∙ ap (λ (l : List Change). opens (promised p) ++ l) (ends_as_the_book clock b p is last (run w (opens (promised p))))

  -- those of an apply
  pub of_apply : (nodes : List Node) (env : List ℕ) (t : ℤ) (again : Option Restate) → IsPlanOf b nodes env t again p → (w : World) → w.book ≡ b → AreOf p.moment (Apply (promised p)) w (executed p w ++ rest b p w)
  of_apply nodes env t again h w is clock shows =
      let of = plan_is_of b nodes env t again p h clock (subst (Shows clock) h.moment_is shows) in
      let may : (is_present w.book && is_not_behind p.moment w.book) ≡ true =
      where_all (is_present w.book) (is_not_behind p.moment w.book) (ap is_present is ∙ present) (ap (is_not_behind p.moment) is ∙ not_behind t p.moment b h.moment_is h.ahead) in
      applies_are clock of h.runs w
      ∙ (λ i. opens (promised p) ++ book_executes clock (sym is i) p.forgets (planned_models p) (promotes (sym is i) (promised p)) (planned_models p) (run w (opens (promised p))))
      ∙ allowed _ (asked clock (Apply (promised p)) w) may

  runs_are : (clock : Clock) → IsOf clock b p → p.run ≡ true → (w : World) → executed p w ≡ run_opens (promised p) ++ book_executes clock b p.forgets (planned_models p) [] (planned_models p) (run w (run_opens (promised p)))
  runs_are clock is runs w =
      as_the_book_asks clock b p is w
      ∙ (λ i. cond (runs i) (run_opens (as_planned p)) (opens (as_planned p)) ++ book_executes clock b p.forgets (planned_models p) [] (planned_models p) (run w (cond (runs i) (run_opens (as_planned p)) (opens (as_planned p)))))

  -- those of a run
  of_run_of : (env : List ℕ) (e : Env) (t : ℤ) → IsRunOf b env e t p → env_at b env ≡ Some e → (w : World) → w.book ≡ b → AreOf p.moment (RunAll (promised p)) w (executed p w)
  of_run_of env e t h there w is clock shows =
      let of = run_is_of b env e t p h clock (subst (Shows clock) h.moment_is shows) in
      let final : is_final (env_at w.book p.env) ≡ true = (λ i. is_final (env_at (is i) (h.env_is i))) ∙ ap is_final there ∙ ap not h.final in
      let may : (is_present w.book && (is_not_behind p.moment w.book && is_final (env_at w.book p.env))) ≡ true =
      where_all (is_present w.book) (is_not_behind p.moment w.book && is_final (env_at w.book p.env)) (ap is_present is ∙ present)
      (where_all (is_not_behind p.moment w.book) (is_final (env_at w.book p.env)) (ap (is_not_behind p.moment) is ∙ not_behind t p.moment b h.moment_is h.ahead) final) in
      runs_are clock of h.runs w
      ∙ (λ i. run_opens (promised p) ++ book_executes clock (sym is i) p.forgets (planned_models p) [] (planned_models p) (run w (run_opens (promised p))))
      ∙ allowed _ (asked clock (RunAll (promised p)) w) may

  run_in : (env : List ℕ) (o : Option Env) (t : ℤ) → IsRunIn b env o t p → env_at b env ≡ o → (w : World) → w.book ≡ b → AreOf p.moment (RunAll (promised p)) w (executed p w)
  run_in env None t h there w is = absurd h
  run_in env (Some e) t h there w is = of_run_of env e t h there w is

  pub of_run : (env : List ℕ) (t : ℤ) → IsRunIn b env (env_at b env) t p → (w : World) → w.book ≡ b → AreOf p.moment (RunAll (promised p)) w (executed p w)
  of_run env t h = run_in env (env_at b env) t h refl

  -- with nothing behind them
  pub of_run_alone : (env : List ℕ) (t : ℤ) → IsRunIn b env (env_at b env) t p → (w : World) → w.book ≡ b → AreOf p.moment (RunAll (promised p)) w (executed p w ++ [])
  of_run_alone env t h w is = subst (λ (l : List Change). AreOf p.moment (RunAll (promised p)) w l) (sym (append-nil (executed p w))) (of_run env t h w is)

-- where as many changes were made as there are without rows, the last ones are those that give the environment its
-- views
pub all_promoted : (b : Book) (p : Plan) → are_fit (parts p) ≡ true → (w : World) → length (executed p w) ≡ length (outline p) → rest b p w ≡ promotes b (promised p)
all_promoted b p fit w long =
    all_come (models p) (promotes b (promised p)) (parts p) (run w (opened p)) fit
    (omega (
      arith,
      long,
      length-append (opened p) (executes (models p) (parts p) (run w (opened p))),
      length-append (opened p) (parts_outline (models p) (parts p)),
    ))

-- the changes that give an environment a plan's models, by name, and their objects, are those
promotion_is : (b : Book) (p : Plan) (refs : List Ref) (objects : List Name) → refs ≡ refs_by_name (planned_models p) → paired refs objects ≡ objects_by_name (planned_models p) → promotion b p.env refs objects p.moment ≡ promotes b (promised p)
promotion_is b p refs objects is pairs =
    ap (λ (r : List Ref). promotion b p.env r objects p.moment) is ∙ promotes_its_models b (promised p) objects (ap (λ (r : List Ref). paired r objects) (sym is) ∙ pairs)

-- what is due of a plan that can be made fits its models
fits : (p : Plan) → IsExecutable p → is_proper p.project.nodes ≡ true → are_fit (parts p) ≡ true
fits p may proper = parts_fit p.project.nodes p.entries p.dues proper may.fit

module _ (b : Book) (present : is_present b ≡ true) (p : Plan) (is : IsPlanFor b p) where
  -- a plan of a book can be made
  pub may_be_made : IsExecutable p
  may_be_made = plan_executable b is.0 is.1 is.2 is.3 p is.4 is.5 is.6

  pub before_promotion : (w : World) → w.book ≡ b → AreOf p.moment (Apply (promised p)) w (executed p w ++ rest b p w)
  before_promotion w has = of_apply b present p is.0 is.1 is.2 is.3 is.6 w has

  pub with_views : (refs : List Ref) (objects : List Name) → refs ≡ refs_by_name (planned_models p) → paired refs objects ≡ objects_by_name (planned_models p)
      → (w : World) → w.book ≡ b → length (executed p w) ≡ length (outline p) → AreOf p.moment (Apply (promised p)) w (executed p w ++ promotion b p.env refs objects p.moment)
  with_views refs objects are pairs w has long =
      subst (λ (l : List Change). AreOf p.moment (Apply (promised p)) w (executed p w ++ l))
      (all_promoted b p (fits p may_be_made is.5) w long ∙ sym (promotion_is b p refs objects are pairs))
      (before_promotion w has)
