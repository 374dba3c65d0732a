-- What a command line makes is what a command of the promise makes, and it is asked for as the promise has it.
use Rattle.std.proofs.Common.{◌≡◌, ℕ, ℤ, Bool, true, false, cond, not, List, Some, None, refl, sym, ap, ◌∙◌, subst}
use Rattle.std.specs.Int.Signed.{lt_z}
use Rattle.std.specs.declared.option.Option.{Option}
use Rattle.std.proofs.lemmas.Bool.{and_from as and_both}
use Rattle.mesh_base.specs.declared.forgets.Restate.{Restate}
use Rattle.mesh_base.specs.declared.snapshots.Env.{Env}
use Rattle.mesh_base.specs.declared.snapshots.Node.{Node}
use Rattle.mesh_base.specs.declared.rules.plans.Plan.{Plan as Made}
use Rattle.mesh_time_days.specs.Moments.{IsMoment}
use Rattle.mesh_house_book.specs.WellFormed.{is_moment}
use Rattle.mesh_house_book.specs.declared.book.Book.{Book}
use Rattle.mesh_spec_model.specs.Horizons.{Clock, Shows}
use Rattle.mesh_house.specs.declared.world.Change.{Change}
use Rattle.mesh_house.specs.declared.world.World.{World}
use Rattle.mesh_spec_changes.specs.Commands as promise
use Rattle.mesh_spec_changes.specs.Commands.{allows, changes, is_final, is_not_behind, is_present}
use Rattle.mesh_spec_changes.specs.Environments.{env_at}
use Rattle.mesh_spec_promise.specs.Histories.{IsAsked, judged_at}
use Rattle.mesh_cli_words.specs.declared.line.Command.{Command}
use Rattle.mesh_cli_words.specs.declared.line.Command.TheVariants.{Plan, Apply, Run, Evaluate, Fetchdf, Ingest, Janitor, Invalidate, Migrate, Trace, Impact, Batch, Demo}
use Rattle.mesh_plan.specs.Plans.{promised}
use Rattle.mesh_plan.specs.Running.{IsRunIn, IsRunOf}
use Rattle.mesh_exec.proofs.plans.Executable.{moment_is}
use Rattle.mesh_cli_apply.specs.Planning.{IsPlanned, IsRunPlanned}
use Rattle.mesh_cli.specs.cli.Asked.{AppliesMake, Makes}
use Rattle.mesh_cli.specs.cli.Sides.{Sides}
use Rattle.mesh_cli.specs.promise.Promised.{AsksApply, AsksFor}

-- a command of the promise whose changes these are, whichever clock shows the moment that it is judged at
abbrev pub IsOf : List ℕ → Sides → Command → World → List Change → Type 0
IsOf dir s c w list = (k : promise.Command) × AsksFor dir s c w k × ((clock : Clock) → Shows clock (judged_at w k) → list ≡ changes clock k w)

-- where a command is allowed, it is judged at the moment that it raises the book's to
pub judged_apply : (w : World) (p : Made) (t : ℤ) → p.moment ≡ t → allows w (promise.Apply (promised p)) ≡ true → judged_at w (promise.Apply (promised p)) ≡ t
judged_apply w p t is may = ap (λ (b : Bool). cond b p.moment w.book.moment) may ∙ is

pub judged_run : (w : World) (p : Made) (t : ℤ) → p.moment ≡ t → allows w (promise.RunAll (promised p)) ≡ true → judged_at w (promise.RunAll (promised p)) ≡ t
judged_run w p t is may = ap (λ (b : Bool). cond b p.moment w.book.moment) may ∙ is

not_behind : (t m : ℤ) (b : Book) → m ≡ t → lt_z t b.moment ≡ false → is_not_behind m b ≡ true
not_behind t m b is ahead = ap (λ (n : ℤ). is_not_behind n b) is ∙ ap not ahead

pub apply_allowed : (w : World) (nodes : List Node) (env : List ℕ) (t : ℤ) (again : Option Restate) (p : Made) → IsPlanned w.book nodes env t again p → allows w (promise.Apply (promised p)) ≡ true
apply_allowed w nodes env t again p is = and_both (is_present w.book) (is_not_behind p.moment w.book) is.present (not_behind t p.moment w.book is.plan.moment_is is.plan.ahead)

-- the plan of a run, with its environment
pub run_of : (b : Book) (env : List ℕ) (t : ℤ) (p : Made) (o : Option Env) → env_at b env ≡ o → IsRunIn b env o t p → (e : Env) × (env_at b env ≡ Some e) × IsRunOf b env e t p
run_of b env t p None at h = absurd h
run_of b env t p (Some e) at h = (e, at, h)

pub run_allowed : (w : World) (env : List ℕ) (t : ℤ) (p : Made) → IsRunPlanned w.book env t p → allows w (promise.RunAll (promised p)) ≡ true
run_allowed w env t p is =
    let (e, at, of) = run_of w.book env t p (env_at w.book env) refl is.plan in
    let final : is_final (env_at w.book p.env) ≡ true = ap (λ (n : List ℕ). is_final (env_at w.book n)) of.env_is ∙ ap is_final at ∙ ap not of.final in
    and_both (is_present w.book) _ is.present (and_both (is_not_behind p.moment w.book) _ (not_behind t p.moment w.book of.moment_is of.ahead) final)

of_apply : (dir : List ℕ) (s : Sides) (env : List ℕ) (moment : Option ℤ) (again : Option Restate) (w : World) (list : List Change) → AppliesMake dir s env moment again w list
    → (k : promise.Command) × AsksApply dir s env moment again w k × ((clock : Clock) → Shows clock (judged_at w k) → list ≡ changes clock k w)
of_apply dir s env moment again w list (t, at, real, project) =
    let (p, planned, ready, are) = project.has in
    let may = apply_allowed w project.project.nodes env t again p planned in (
      promise.Apply (promised p),
      (t, at, real, record { project = project.project; loaded = project.loaded; has = (p, planned, refl) }),
      λ clock shows. are clock (subst (Shows clock) (judged_apply w p t planned.plan.moment_is may) shows),
    )

pub made_is_asked : (dir : List ℕ) (s : Sides) (c : Command) (w : World) (list : List Change) → Makes dir s c w list → IsOf dir s c w list
made_is_asked dir s (Plan env true workers moment again) w list h = of_apply dir s env moment again w list h
made_is_asked dir s (Plan env false workers moment again) w list h = (promise.Nothing, refl, λ clock shows. h)
made_is_asked dir s (Apply env workers moment again) w list h = of_apply dir s env moment again w list h
made_is_asked dir s (Run env workers moment) w list (t, at, real, (p, planned, ready, are)) =
    let (e, known, of) = run_of w.book env t p (env_at w.book env) refl planned.plan in (
      promise.RunAll (promised p),
      (t, at, real, (p, planned, refl)),
      λ clock shows. are clock (subst (Shows clock) (judged_run w p t of.moment_is (run_allowed w env t p planned)) shows),
    )
made_is_asked dir s (Evaluate model env first last) w list h = (promise.Nothing, refl, λ clock shows. h)
made_is_asked dir s (Fetchdf query env) w list h = (promise.Nothing, refl, λ clock shows. h)
made_is_asked dir s (Ingest name file append) w list h =
    (promise.Ingest name h.source.columns h.source.rows append, record { source = h.source; read = h.read; has = refl }, λ clock shows. h.has clock)
made_is_asked dir s (Janitor moment) w list (t, at, real, are) = (promise.Janitor t, (t, at, real, refl), λ clock shows. are clock)
made_is_asked dir s (Invalidate env) w list are = (promise.Invalidate env, refl, λ clock shows. are clock)
made_is_asked dir s Migrate w list (renames, moved, are) = (promise.MigrateAll renames, (renames, moved, refl), λ clock shows. are clock)
made_is_asked dir s (Trace model column) w list h = (promise.Nothing, refl, λ clock shows. h)
made_is_asked dir s (Impact source column) w list h = (promise.Nothing, refl, λ clock shows. h)
made_is_asked dir s Batch w list h = (promise.Nothing, refl, λ clock shows. h)
made_is_asked dir s (Demo n workers) w list h = (promise.Nothing, refl, λ clock shows. h)

apply_asked : (dir : List ℕ) (s : Sides) (env : List ℕ) (moment : Option ℤ) (again : Option Restate) (w : World) (k : promise.Command) → AsksApply dir s env moment again w k
    → (after : Clock) → Shows after (judged_at w k) → IsAsked after w k
apply_asked dir s env moment again w k (t, at, real, project) after shows =
    let (p, planned, is) = project.has in
    let may = apply_allowed w project.project.nodes env t again p planned in
    let shown : Shows after t = subst (Shows after) (judged_apply w p t planned.plan.moment_is may) (subst (λ (c : promise.Command). Shows after (judged_at w c)) is shows) in
    subst (IsAsked after w) (sym is) (record {
      nodes = project.project.nodes;
      restate = again;
      proper = planned.proper;
      moment = ap is_moment planned.plan.moment_is ∙ moment_is t real;
      planned = planned.plan.keeps after shown;
    })

-- a command of the promise that a line asks for is asked for as the promise has it
pub asked_is_met : (dir : List ℕ) (s : Sides) (c : Command) (w : World) (k : promise.Command) → AsksFor dir s c w k → (after : Clock) → Shows after (judged_at w k) → IsAsked after w k
asked_is_met dir s (Plan env true workers moment again) w k h after shows = apply_asked dir s env moment again w k h after shows
asked_is_met dir s (Plan env false workers moment again) w k h after shows = subst (IsAsked after w) (sym h) tt
asked_is_met dir s (Apply env workers moment again) w k h after shows = apply_asked dir s env moment again w k h after shows
asked_is_met dir s (Run env workers moment) w k (t, at, real, (p, planned, is)) after shows =
    let (e, known, of) = run_of w.book env t p (env_at w.book env) refl planned.plan in
    let shown : Shows after t = subst (Shows after) (judged_run w p t of.moment_is (run_allowed w env t p planned)) (subst (λ (c : promise.Command). Shows after (judged_at w c)) is shows) in
    subst (IsAsked after w) (sym is) (ap is_moment of.moment_is ∙ moment_is t real, of.keeps after shown)
asked_is_met dir s (Evaluate model env first last) w k h after shows = subst (IsAsked after w) (sym h) tt
asked_is_met dir s (Fetchdf query env) w k h after shows = subst (IsAsked after w) (sym h) tt
asked_is_met dir s (Ingest name file append) w k h after shows = subst (IsAsked after w) (sym h.has) tt
asked_is_met dir s (Janitor moment) w k (t, at, real, is) after shows = subst (IsAsked after w) (sym is) (moment_is t real)
asked_is_met dir s (Invalidate env) w k h after shows = subst (IsAsked after w) (sym h) tt
asked_is_met dir s Migrate w k (renames, moved, is) after shows = subst (IsAsked after w) (sym is) tt
asked_is_met dir s (Trace model column) w k h after shows = subst (IsAsked after w) (sym h) tt
asked_is_met dir s (Impact source column) w k h after shows = subst (IsAsked after w) (sym h) tt
asked_is_met dir s Batch w k h after shows = subst (IsAsked after w) (sym h) tt
asked_is_met dir s (Demo n workers) w k h after shows = subst (IsAsked after w) (sym h) tt

-- a plan that is asked for is one that the world allows
abbrev pub MayLeave : World → promise.Command → Type 0
MayLeave w (promise.Apply plan) = allows w (promise.Apply plan) ≡ true
MayLeave w (promise.RunAll plan) = allows w (promise.RunAll plan) ≡ true
MayLeave w (promise.Janitor t) = Unit {0}
MayLeave w (promise.Ingest name columns rows keep) = Unit {0}
MayLeave w (promise.Invalidate env) = Unit {0}
MayLeave w (promise.MigrateAll renames) = Unit {0}
MayLeave w promise.Nothing = Unit {0}

apply_may : (dir : List ℕ) (s : Sides) (env : List ℕ) (moment : Option ℤ) (again : Option Restate) (w : World) (k : promise.Command) → AsksApply dir s env moment again w k → MayLeave w k
apply_may dir s env moment again w k (t, at, real, project) =
    let (p, planned, is) = project.has in subst (MayLeave w) (sym is) (apply_allowed w project.project.nodes env t again p planned)

pub may_leave : (dir : List ℕ) (s : Sides) (c : Command) (w : World) (k : promise.Command) → AsksFor dir s c w k → MayLeave w k
may_leave dir s (Plan env true workers moment again) w k h = apply_may dir s env moment again w k h
may_leave dir s (Plan env false workers moment again) w k h = subst (MayLeave w) (sym h) tt
may_leave dir s (Apply env workers moment again) w k h = apply_may dir s env moment again w k h
may_leave dir s (Run env workers moment) w k (t, at, real, (p, planned, is)) = subst (MayLeave w) (sym is) (run_allowed w env t p planned)
may_leave dir s (Evaluate model env first last) w k h = subst (MayLeave w) (sym h) tt
may_leave dir s (Fetchdf query env) w k h = subst (MayLeave w) (sym h) tt
may_leave dir s (Ingest name file append) w k h = subst (MayLeave w) (sym h.has) tt
may_leave dir s (Janitor moment) w k (t, at, real, is) = subst (MayLeave w) (sym is) tt
may_leave dir s (Invalidate env) w k h = subst (MayLeave w) (sym h) tt
may_leave dir s Migrate w k (renames, moved, is) = subst (MayLeave w) (sym is) tt
may_leave dir s (Trace model column) w k h = subst (MayLeave w) (sym h) tt
may_leave dir s (Impact source column) w k h = subst (MayLeave w) (sym h) tt
may_leave dir s Batch w k h = subst (MayLeave w) (sym h) tt
may_leave dir s (Demo n workers) w k h = subst (MayLeave w) (sym h) tt

-- what is judged at the moment that the words or the clock give
pub apply_judged : (dir : List ℕ) (s : Sides) (env : List ℕ) (moment : Option ℤ) (again : Option Restate) (w : World) (k : promise.Command) → AsksApply dir s env moment again w k → (t : ℤ) × (judged_at w k ≡ t) × IsMoment t
apply_judged dir s env moment again w k (t, at, real, project) =
    let (p, planned, is) = project.has in
    (t, ap (judged_at w) is ∙ judged_apply w p t planned.plan.moment_is (apply_allowed w project.project.nodes env t again p planned), real)

pub run_judged : (w : World) (env : List ℕ) (t : ℤ) (p : Made) → IsRunPlanned w.book env t p → judged_at w (promise.RunAll (promised p)) ≡ t
run_judged w env t p planned =
    let (e, known, of) = run_of w.book env t p (env_at w.book env) refl planned.plan in judged_run w p t of.moment_is (run_allowed w env t p planned)
