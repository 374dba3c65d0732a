-- The due parts of a model are filled from the rows of their jobs.
use Rattle.std.proofs.Common.{◌≡◌, ◌≤◌, ◌<◌, ◌+◌, ℕ, zero, suc, Bool, true, false, List, [], ◌∷◌, ◌++◌, length, take, drop, map, Some, None, refl, sym, ap, ◌∙◌, subst, arith, length-append, append_assoc, Ok, Err, Result}
use Rattle.std.specs.Prelude.{not}
use Rattle.std.specs.List.{All, filter, flat_map, list_all}
use Rattle.std.specs.Option.{option_to_list}
use Rattle.std.specs.Result.{IfOk}
use Rattle.std.specs.declared.option.Option.{Option}
use Rattle.std.proofs.lemmas.List.{map-append, take-append-drop}
use Rattle.std.proofs.lemmas.List.Elements.{All-append, All-cons, All-nil}
use Rattle.std.proofs.lemmas.Grind.{flat_map-append}
use Rattle.mesh_base_values.specs.Kinds.{is_incremental, time_column}
use Rattle.mesh_base_values.specs.declared.kinds.Kind.{Kind}
use Rattle.mesh_base_values.specs.declared.kinds.Kind.TheVariants.{Full, View, Seed as SeedKind, Incremental}
use Rattle.mesh_base_values.specs.declared.times.Bounds.{Bounds}
use Rattle.mesh_base_values.specs.declared.values.Cell.{Cell}
use Rattle.mesh_base_values.specs.declared.values.Column.{Column}
use Rattle.mesh_base_values.proofs.Tests.{both_parts as is_both}
use Rattle.mesh_base.specs.Outputs.{defn_columns, select_columns}
use Rattle.mesh_base.specs.declared.definitions.Defn.{Defn}
use Rattle.mesh_base.specs.declared.definitions.Defn.TheVariants.{Seed, Sql}
use Rattle.mesh_base.specs.declared.jobs.Input.{Input}
use Rattle.mesh_base.specs.declared.jobs.Job.{Job}
use Rattle.mesh_base.specs.declared.plans.Due.{Due}
use Rattle.mesh_base.specs.declared.plans.Due.TheVariants.{Whole, Unit as OfUnit}
use Rattle.mesh_base.specs.declared.plans.Entry.{Entry}
use Rattle.mesh_base.specs.declared.snapshots.Node.{Node}
use Rattle.mesh_base.specs.rules.Proper.{is_body_of}
use Rattle.mesh_spec_query.specs.Sel.{Sel}
use Rattle.mesh_spec_model.specs.Scratch.{defn_rows, lies_by, no_bounds}
use Rattle.mesh_house.specs.declared.world.Change.{Change}
use Rattle.mesh_spec_changes.specs.due.Marks.{is_computed}
use Rattle.mesh_spec_changes.specs.due.Plans.{Planned}
use Rattle.mesh_spec_changes.specs.Changes.{ascending}
use Rattle.mesh_exec_wave.specs.wave.Waves.{counts, job_rows}
use Rattle.mesh_lineage.specs.Joinable.{is_joinable}
use Rattle.mesh_exec_works.specs.Executable.{is_due_of}
use Rattle.mesh_exec_works.specs.Fronts.{pool_at}
use Rattle.mesh_exec_works.specs.Written.{written}
use Rattle.mesh_exec_works.specs.Plain.{model_of}
use Rattle.mesh_exec_works.specs.Works.{seed_rows}
use Rattle.mesh_exec.specs.Executed.{filled, part_rows}
use Rattle.mesh_exec.specs.Fills.{each_with, fillings, run_fillings, run_rows, span_rows, zipped}
use Rattle.mesh_exec.specs.Jobs.{due_job, jobs_of, span_job}
use Rattle.mesh_exec.specs.Runs.{AreRunsOf, are_fit_runs, dues_in, is_fit_run, is_run, spanned}
use Rattle.mesh_exec.specs.declared.runs.Run.{Run}
use Rattle.mesh_exec.proofs.Cutting.{cut_run}

at_most : (o : Option Job) → length (option_to_list o) ≤ 1
at_most None = omega arith
at_most (Some j) = omega arith

one_job : (pool : ℕ) (k : Kind) (b : Defn) (ds : List Due) → length (span_job pool k b ds) ≤ 1
one_job pool k b [] = omega arith
one_job pool k b (d ∷ ds) = at_most (due_job pool k b (spanned d ds))

pub few_jobs : (pool : ℕ) (k : Kind) (b : Defn) (runs : List Run) → length (jobs_of pool k b runs) ≤ length runs
few_jobs pool k b [] = omega arith
few_jobs pool k b (r ∷ rs) = omega (arith, one_job pool k b (dues_in r), few_jobs pool k b rs, length-append (span_job pool k b (dues_in r)) (jobs_of pool k b rs))

-- each row counts
all_count : (columns : List Column) (u : Bounds) (rows : List (List Cell)) → filter (counts None columns u) rows ≡ rows
all_count columns u [] = refl
all_count columns u (r ∷ rs) = ap (λ l. r ∷ l) (all_count columns u rs)

-- a part is one of the model's kind
abbrev matches : Bool → Due → Bool
matches is_incremental (Whole place marks) = not is_incremental
matches is_incremental (OfUnit place start end) = is_incremental

fit_matches : (n : Node) (d : Due) → is_due_of (Some n) d ≡ true → matches (is_incremental n.own.kind) d ≡ true
fit_matches n (Whole place marks) h = h
fit_matches n (OfUnit place start end) h = (is_both (is_incremental n.own.kind) _ h).0

span_matches : (b : Bool) (d : Due) (ds : List Due) → matches b d ≡ true → matches b (spanned d ds) ≡ true
span_matches b (Whole place marks) ds h = h
span_matches b (OfUnit place start end) ds h = h

-- a run of a computed model has one job, whose rows are those of the run
module _ (n : Node) (e : Entry) (pools : List (List Input)) (pool : ℕ) where
  abbrev p : Planned
  p = model_of n e

  one : (d : Due) (k : Kind) (b : Defn) → n.own.kind ≡ k → n.own.defn ≡ b → is_computed k ≡ true → is_body_of k b ≡ true → matches (is_incremental n.own.kind) d ≡ true
      → map (job_rows pools) (option_to_list (due_job pool k b d)) ≡ ascending (part_rows p (pool_at pools pool) d) ∷ []
  unfolding job_rows
  one (Whole place marks) Full (Sql q) kind defn computed body fit =
      ap (λ (rows : List (List Cell)). ascending rows ∷ []) (all_count (select_columns q.selects) no_bounds (Sel q (pool_at pools pool) no_bounds) ∙ ap (λ (b : Defn). defn_rows b (pool_at pools pool) no_bounds) (sym defn))
  one (OfUnit place start end) Full (Sql q) kind defn computed body fit = absurd (let j : is_incremental n.own.kind ≡ false = ap is_incremental kind in cc)
  one (OfUnit place start end) (Incremental time lookback) (Sql q) kind defn computed body fit =
      let u : Bounds = record { start = start; end = end } in
      λ i. ascending (filter (λ row. lies_by (time_column (sym kind i)) (defn_columns (sym defn i)) u row) (defn_rows (sym defn i) (pool_at pools pool) u)) ∷ []
  one (Whole place marks) (Incremental time lookback) (Sql q) kind defn computed body fit = absurd (let j : is_incremental n.own.kind ≡ true = ap is_incremental kind in let f : not (is_incremental n.own.kind) ≡ true = fit in let g : not true ≡ true = ap not (sym j) ∙ f in cc)
  one d Full (Seed columns rows) kind defn computed body fit = absurd (let f : false ≡ true = body in cc)
  one d (Incremental time lookback) (Seed columns rows) kind defn computed body fit = absurd (let f : false ≡ true = body in cc)
  one d View b kind defn computed body fit = absurd (let f : false ≡ true = computed in cc)
  one d SeedKind b kind defn computed body fit = absurd (let f : false ≡ true = computed in cc)

  one_run : (ds : List Due) → is_computed n.own.kind ≡ true → is_body_of n.own.kind n.own.defn ≡ true → is_run (is_joinable n.own) ds ≡ true → list_all (is_due_of (Some n)) ds ≡ true
      → map (job_rows pools) (span_job pool n.own.kind n.own.defn ds) ≡ span_rows p (pool_at pools pool) ds ∷ []
  one_run [] computed body run fit = absurd (let f : false ≡ true = run in cc)
  one_run (d ∷ ds) computed body run fit =
      one (spanned d ds) n.own.kind n.own.defn refl refl computed body (span_matches (is_incremental n.own.kind) d ds (fit_matches n d (is_both (is_due_of (Some n) d) (list_all (is_due_of (Some n)) ds) fit).0))

  pub jobs_rows : (runs : List Run) → is_computed n.own.kind ≡ true → is_body_of n.own.kind n.own.defn ≡ true → are_fit_runs n runs ≡ true → map (job_rows pools) (jobs_of pool n.own.kind n.own.defn runs) ≡ map (run_rows p (pool_at pools pool)) runs
  jobs_rows [] computed body fit = refl
  jobs_rows (r ∷ rs) computed body fit =
      let f = is_both (is_fit_run n r) (are_fit_runs n rs) fit in
      let g = is_both (is_run (is_joinable n.own) (dues_in r)) (list_all (is_due_of (Some n)) (dues_in r)) f.0 in
      map-append (job_rows pools) (span_job pool n.own.kind n.own.defn (dues_in r)) (jobs_of pool n.own.kind n.own.defn rs)
      ∙ (λ i. one_run (dues_in r) computed body g.0 g.1 i ++ jobs_rows rs computed body f.1 i)

  -- what fills the runs
  pub zip_fills : (runs : List Run) → are_fit_runs n runs ≡ true → zipped p runs (map (run_rows p (pool_at pools pool)) runs) ≡ run_fillings p (pool_at pools pool) runs
  zip_fills [] fit = refl
  zip_fills (r ∷ rs) fit =
      let f = is_both (is_fit_run n r) (are_fit_runs n rs) fit in
      let g = is_both (is_run (is_joinable n.own) (dues_in r)) (list_all (is_due_of (Some n)) (dues_in r)) f.0 in
      λ i. cut_run n e (pool_at pools pool) (dues_in r) g.0 g.1 i ++ zip_fills rs f.1 i

module _ (n : Node) (e : Entry) (ts : List Input) where
  abbrev m : Planned
  m = model_of n e

  view_one : (k : Kind) (d : Due) (rows other : List (List Cell)) → k ≡ View → written m k d rows ≡ written m k d other
  view_one k (Whole place marks) rows other is = ap (λ (x : Kind). written m x (Whole place marks) rows) is ∙ sym (ap (λ (x : Kind). written m x (Whole place marks) other) is)
  view_one k (OfUnit place start end) rows other is = ap (λ (x : Kind). written m x (OfUnit place start end) rows) is ∙ sym (ap (λ (x : Kind). written m x (OfUnit place start end) other) is)

  pub view_fills : (dues : List Due) (rows : List (List Cell)) → n.own.kind ≡ View → each_with m dues rows ≡ fillings m ts dues
  view_fills [] rows is = refl
  view_fills (d ∷ ds) rows is = λ i. view_one n.own.kind d rows (ascending (part_rows m ts d)) is i ++ view_fills ds rows is i

  seed_body : (k : Kind) (b : Defn) → k ≡ SeedKind → is_body_of k b ≡ true → defn_rows b ts no_bounds ≡ seed_rows b
  seed_body k (Seed columns rows) is body = refl
  seed_body k (Sql q) is body = absurd (let f : is_body_of SeedKind (Sql q) ≡ true = ap (λ (x : Kind). is_body_of x (Sql q)) (sym is) ∙ body in cc)

  seed_one : (d : Due) → n.own.kind ≡ SeedKind → is_body_of n.own.kind n.own.defn ≡ true → written m n.own.kind d (ascending (seed_rows n.own.defn)) ≡ filled m ts d
  seed_one (Whole place marks) is body = ap (λ (rows : List (List Cell)). written m n.own.kind (Whole place marks) (ascending rows)) (sym (seed_body n.own.kind n.own.defn is body))
  seed_one (OfUnit place start end) is body =
      ap (λ (x : Kind). written m x (OfUnit place start end) (ascending (seed_rows n.own.defn))) is
      ∙ sym (ap (λ (x : Kind). written m x (OfUnit place start end) (ascending (part_rows m ts (OfUnit place start end)))) is)

  pub seed_fills : (dues : List Due) → n.own.kind ≡ SeedKind → is_body_of n.own.kind n.own.defn ≡ true → each_with m dues (ascending (seed_rows n.own.defn)) ≡ fillings m ts dues
  seed_fills [] is body = refl
  seed_fills (d ∷ ds) is body = λ i. seed_one d is body i ++ seed_fills ds is body i

taken_self : {X : Type 0} (k : ℕ) (xs : List X) → take (length (take k xs)) xs ≡ take k xs
taken_self zero xs = refl
taken_self (suc k) [] = refl
taken_self (suc k) (x ∷ xs) = ap (λ l. x ∷ l) (taken_self k xs)

take_none : {X : Type 0} (k : ℕ) → take {A = X} k [] ≡ []
take_none zero = refl
take_none (suc k) = refl

-- some more of the runs from a place on
taken_more : (runs : List Run) (at : ℕ) → take (at + length (take 256 (drop at runs))) runs ≡ take at runs ++ take 256 (drop at runs)
taken_more runs zero = let e : 0 + length (take 256 runs) ≡ length (take 256 runs) = omega arith in ap (λ k. take k runs) e ∙ taken_self 256 runs
taken_more [] (suc at) = take_none (suc at + length (take {A = Run} 256 (drop {A = Run} (suc at) [])))
taken_more (r ∷ rs) (suc at) =
    let e : suc at + length (take 256 (drop at rs)) ≡ suc (at + length (take 256 (drop at rs))) = omega arith in
    ap (λ k. take k (r ∷ rs)) e ∙ ap (λ l. r ∷ l) (taken_more rs at)

module _ (q : Planned) (ts : List Input) where
  abbrev each : Run → List Change
  each r = fillings q ts (dues_in r)

  pub fill_more : (runs front : List Run) (at : ℕ) → front ≡ take 256 (drop at runs) → run_fillings q ts (take (at + length front) runs) ≡ run_fillings q ts (take at runs) ++ run_fillings q ts front
  fill_more runs front at is =
      ap (λ (l : List Run). run_fillings q ts (take (at + length l) runs)) is
      ∙ ap (run_fillings q ts) (taken_more runs at)
      ∙ flat_map-append each (take at runs) (take 256 (drop at runs))
      ∙ ap (λ (l : List Run). run_fillings q ts (take at runs) ++ run_fillings q ts l) (sym is)

  pub fill_parts : (runs front : List Run) (at : ℕ) → front ≡ take 256 (drop at runs) → run_fillings q ts runs ≡ run_fillings q ts (take at runs) ++ (run_fillings q ts front ++ run_fillings q ts (drop 256 (drop at runs)))
  fill_parts runs front at is =
      ap (run_fillings q ts) (sym (take-append-drop at runs))
      ∙ flat_map-append each (take at runs) (drop at runs)
      ∙ ap (λ (l : List Change). run_fillings q ts (take at runs) ++ l)
      (ap (run_fillings q ts) (sym (take-append-drop 256 (drop at runs))) ∙ flat_map-append each (take 256 (drop at runs)) (drop 256 (drop at runs)) ∙ ap (λ (l : List Run). run_fillings q ts l ++ run_fillings q ts (drop 256 (drop at runs))) (sym is))

  pub fill_rest : (runs front : List Run) (at : ℕ) → front ≡ take 256 (drop at runs) → run_fillings q ts runs ≡ run_fillings q ts (take (at + length front) runs) ++ run_fillings q ts (drop 256 (drop at runs))
  fill_rest runs front at is =
      fill_parts runs front at is ∙ sym (append_assoc (run_fillings q ts (take at runs)) (run_fillings q ts front) (run_fillings q ts (drop 256 (drop at runs)))) ∙ ap (λ (l : List Change). l ++ run_fillings q ts (drop 256 (drop at runs))) (sym (fill_more runs front at is))

  all_runs : (runs : List Run) → run_fillings q ts runs ≡ fillings q ts (flat_map dues_in runs)
  all_runs [] = refl
  all_runs (r ∷ rs) = ap (λ (l : List Change). each r ++ l) (all_runs rs) ∙ sym (flat_map-append (filled q ts) (dues_in r) (flat_map dues_in rs))

  -- the runs have all that is due
  pub runs_fill : (joins : Bool) (dues : List Due) (runs : List Run) → AreRunsOf joins dues runs → run_fillings q ts runs ≡ fillings q ts dues
  runs_fill joins dues runs are = all_runs runs ∙ ap (fillings q ts) are.whole

pub ok_more : {X E : Type 0} (P Q : X → Type 0) (r : Result X E) → ((x : X) → P x → Q x) → IfOk r P → IfOk r Q
ok_more P Q (Ok x) f h = f x h
ok_more P Q (Err e) f h = tt

-- what holds for each holds for one
pub ok_at : {X Y E : Type 0} (P : X → Y → Type 0) (r : Result X E) (y : Y) → IfOk r (λ x. (z : Y) → P x z) → IfOk r (λ x. P x y)
ok_at P (Ok x) y h = h y
ok_at P (Err e) y h = tt

-- all jobs are over one pool
module _ (n pool : ℕ) (lt : pool < n) where
  abbrev There : Job → Type 0
  There j = j.pool < n

  one_there : (k : Kind) (b : Defn) (d : Due) → All There (option_to_list (due_job pool k b d))
  one_there (Incremental time lookback) (Sql q) (OfUnit place start end) = All-cons There _ [] lt (All-nil There)
  one_there (Incremental time lookback) (Sql q) (Whole place marks) = All-nil There
  one_there Full (Sql q) (Whole place marks) = All-cons There _ [] lt (All-nil There)
  one_there Full (Sql q) (OfUnit place start end) = All-nil There
  one_there View (Sql q) d = All-nil There
  one_there SeedKind (Sql q) d = All-nil There
  one_there k (Seed columns rows) d = All-nil There

  run_there : (k : Kind) (b : Defn) (ds : List Due) → All There (span_job pool k b ds)
  run_there k b [] = All-nil There
  run_there k b (d ∷ ds) = one_there k b (spanned d ds)

  pub all_there : (k : Kind) (b : Defn) (runs : List Run) → All There (jobs_of pool k b runs)
  all_there k b [] = All-nil There
  all_there k b (r ∷ rs) = All-append There (span_job pool k b (dues_in r)) (jobs_of pool k b rs) (run_there k b (dues_in r)) (all_there k b rs)

  pub pools_there : (k : Kind) (b : Defn) (runs : List Run) (jobs : List Job) → jobs ≡ jobs_of pool k b runs → All There jobs
  pools_there k b runs jobs is = subst (All There) (sym is) (all_there k b runs)
