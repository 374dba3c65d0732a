-- The rows of models that are computed side by side, and the changes that are made of them.
use Rattle.std.proofs.Common.{◌≡◌, ◌≤◌, ◌<◌, ◌+◌, ℕ, zero, suc, Bool, true, false, List, [], ◌∷◌, ◌++◌, length, take, drop, get_or, map, Some, Ok, Err, Result, OnOk, refl, sym, ap, ◌∙◌, subst, arith, add-one, length-append, append_assoc}
use Rattle.std.specs.Prelude.{min, nat_lt}
use Rattle.std.specs.List.{All, list_all}
use Rattle.std.proofs.lemmas.Bool.{ltb-true}
use Rattle.std.proofs.lemmas.List.{length-map, map-append}
use Rattle.std.proofs.lemmas.List.Elements.{All-append, All-nil}
use Rattle.mesh_base_values.specs.declared.values.Cell.{Cell}
use Rattle.mesh_base_values.proofs.Tests.{both_parts as is_both}
use Rattle.mesh_base.specs.declared.jobs.Input.{Input}
use Rattle.mesh_base.specs.declared.jobs.Job.{Job}
use Rattle.mesh_house.specs.declared.world.Change.{Change}
use Rattle.mesh_base.specs.rules.Proper.{is_body_of}
use Rattle.mesh_spec_changes.specs.due.Marks.{is_computed}
use Rattle.mesh_spec_changes.specs.due.Plans.{Planned}
use Rattle.mesh_lineage.specs.Joinable.{is_joinable}
use Rattle.mesh_exec_wave.specs.wave.Waves.{job_rows}
use Rattle.mesh_exec_works.specs.Executable.{is_due_of}
use Rattle.mesh_exec_works.specs.Fronts.{pool_at}
use Rattle.mesh_exec_works.specs.Plain.{work_model}
use Rattle.mesh_exec_works.specs.Works.{are_fit, is_fit}
use Rattle.mesh_exec_works.specs.declared.works.Work.{Work}
use Rattle.mesh_exec.specs.Cuts.{AreCuts, AreRunsIf, IsCut, count_runs, cut_part, work_of}
use Rattle.mesh_exec.specs.Fills.{fillings, run_rows, zipped}
use Rattle.mesh_exec.specs.Fronts.{cut_jobs, cut_rows, front_changes, part_changes, part_rows_of}
use Rattle.mesh_exec.specs.Jobs.{jobs_of}
use Rattle.mesh_exec.specs.Runs.{AreRunsOf, are_fit_runs}
use Rattle.mesh_exec.specs.declared.ready.Cut.{Cut}
use Rattle.mesh_exec.specs.declared.runs.Run.{Run}
use Rattle.mesh_exec.proofs.Filling.{all_there, few_jobs, jobs_rows, runs_fill, zip_fills}
use Rattle.mesh_exec.proofs.Running.{drop_at, runs_fit, take_at}

module _ (c : Cut) (cut : IsCut c) where
  pub runs_are : is_computed c.work.node.now.own.kind ≡ true → AreRunsOf (is_joinable c.work.node.now.own) c.work.dues.now c.runs
  runs_are is = subst (λ (b : Bool). AreRunsIf b c.work.node.now c.work.dues.now c.runs) is cut

  no_runs : is_computed c.work.node.now.own.kind ≡ false → c.runs ≡ []
  no_runs is = subst (λ (b : Bool). AreRunsIf b c.work.node.now c.work.dues.now c.runs) is cut

  pub runs_suit : is_fit c.work.node.now c.work.dues.now ≡ true → is_computed c.work.node.now.own.kind ≡ true → are_fit_runs c.work.node.now c.runs ≡ true
  runs_suit fit is = runs_fit c.work.node.now c.work.dues.now c.runs (runs_are is) fit

  pub body_suits : is_fit c.work.node.now c.work.dues.now ≡ true → is_body_of c.work.node.now.own.kind c.work.node.now.own.defn ≡ true
  body_suits fit = (is_both (is_body_of c.work.node.now.own.kind c.work.node.now.own.defn) (list_all (is_due_of (Some c.work.node.now)) c.work.dues.now) fit).0

  -- the rows of a model's jobs are those of its runs
  rows_are : (pools : List (List Input)) (pool : ℕ) → is_fit c.work.node.now c.work.dues.now ≡ true
      → map (job_rows pools) (jobs_of pool c.work.node.now.own.kind c.work.node.now.own.defn c.runs) ≡ part_rows_of c (pool_at pools pool)
  rows_are pools pool fit = by (is_computed c.work.node.now.own.kind) refl
    where
      by : (b : Bool) → is_computed c.work.node.now.own.kind ≡ b → map (job_rows pools) (jobs_of pool c.work.node.now.own.kind c.work.node.now.own.defn c.runs) ≡ part_rows_of c (pool_at pools pool)
      by true is = jobs_rows c.work.node.now c.work.entry.now pools pool c.runs is (body_suits fit) (runs_suit fit is)
      by false is =
          ap (λ (rs : List Run). map (job_rows pools) (jobs_of pool c.work.node.now.own.kind c.work.node.now.own.defn rs)) (no_runs is)
          ∙ sym (ap (map (run_rows (work_model c.work) (pool_at pools pool))) (no_runs is))

  -- what fills a model from the rows of its runs
  pub zipped_fills : (tables : List Input) (rows : List (List (List Cell))) → is_fit c.work.node.now c.work.dues.now ≡ true → is_computed c.work.node.now.own.kind ≡ true → rows ≡ part_rows_of c tables
      → zipped (work_model c.work) c.runs rows ≡ fillings (work_model c.work) tables c.work.dues.now
  zipped_fills tables rows fit is rows_is =
      ap (zipped (work_model c.work) c.runs) rows_is
      ∙ zip_fills c.work.node.now c.work.entry.now (tables ∷ []) 0 c.runs (runs_suit fit is)
      ∙ runs_fill (work_model c.work) tables (is_joinable c.work.node.now.own) c.work.dues.now c.runs (runs_are is)

pub few_cuts : (cuts : List Cut) (numbers : List ℕ) → length (cut_jobs cuts numbers) ≤ count_runs cuts
few_cuts [] ns = omega arith
few_cuts (c ∷ cs) [] = omega arith
few_cuts (c ∷ cs) (n ∷ ns) =
    let k = c.work.node.now.own.kind in
    let b = c.work.node.now.own.defn in
    omega (arith, few_jobs n k b c.runs, few_cuts cs ns, length-append (jobs_of n k b c.runs) (cut_jobs cs ns))

module _ (pools : ℕ) where
  abbrev pub There : Job → Type 0
  There j = j.pool < pools

  pub jobs_there : (cuts : List Cut) (numbers : List ℕ) → list_all (λ n. nat_lt n pools) numbers ≡ true → All There (cut_jobs cuts numbers)
  jobs_there [] ns h = All-nil There
  jobs_there (c ∷ cs) [] h = All-nil There
  jobs_there (c ∷ cs) (n ∷ ns) h =
      let b = is_both (nat_lt n pools) (list_all (λ m. nat_lt m pools) ns) h in
      let k = c.work.node.now.own.kind in
      let d = c.work.node.now.own.defn in
      All-append There (jobs_of n k d c.runs) (cut_jobs cs ns) (all_there pools n (ltb-true n pools b.0) k d c.runs) (jobs_there cs ns b.1)

fit_first : (c : Cut) (cs : List Cut) → are_fit (map cut_part (c ∷ cs)) ≡ true → (is_fit c.work.node.now c.work.dues.now ≡ true) × (are_fit (map cut_part cs) ≡ true)
fit_first c cs fit = is_both (is_fit c.work.node.now c.work.dues.now) (are_fit (map cut_part cs)) fit

pub all_rows : (pools : List (List Input)) (cuts : List Cut) (numbers : List ℕ) → AreCuts cuts → are_fit (map cut_part cuts) ≡ true → map (job_rows pools) (cut_jobs cuts numbers) ≡ cut_rows cuts (map (pool_at pools) numbers)
all_rows pools [] ns are fit = refl
all_rows pools (c ∷ cs) [] are fit = refl
all_rows pools (c ∷ cs) (n ∷ ns) are fit =
    let f = fit_first c cs fit in
    map-append (job_rows pools) (jobs_of n c.work.node.now.own.kind c.work.node.now.own.defn c.runs) (cut_jobs cs ns)
    ∙ (λ i. rows_are c are.0 pools n f.0 i ++ all_rows pools cs ns are.1 f.1 i)

-- the rows of the next model are the first of those that are left
front_taken : {X : Type 0} (n : ℕ) (xs ys : List X) → n ≡ length xs → take (min n (length (xs ++ ys))) (xs ++ ys) ≡ xs
front_taken {X = X} n xs ys is =
    let m : min n (length (xs ++ ys)) ≡ length xs = omega (arith, is, length-append xs ys) in
    ap (λ k. take k (xs ++ ys)) m ∙ go xs
  where
    go : (zs : List X) → take (length zs) (zs ++ ys) ≡ zs
    go [] = refl
    go (z ∷ zs) = ap (λ l. z ∷ l) (go zs)

front_dropped : {X : Type 0} (n : ℕ) (xs ys : List X) → n ≡ length xs → drop (min n (length (xs ++ ys))) (xs ++ ys) ≡ ys
front_dropped {X = X} n xs ys is =
    let m : min n (length (xs ++ ys)) ≡ length xs = omega (arith, is, length-append xs ys) in
    ap (λ k. drop k (xs ++ ys)) m ∙ go xs
  where
    go : (zs : List X) → drop (length zs) (zs ++ ys) ≡ ys
    go [] = refl
    go (z ∷ zs) = go zs

pub on_ok : {X E : Type 0} (P Q : Type 0) (r : Result X E) → (P → Q) → OnOk r P → OnOk r Q
on_ok P Q (Ok x) f h = f h
on_ok P Q (Err e) f h = tt

pub cuts_more : (cuts : List Cut) (c : Cut) → AreCuts cuts → IsCut c → AreCuts (cuts ++ c ∷ [])
cuts_more [] c are is = (is, tt)
cuts_more (d ∷ ds) c are is = (are.0, cuts_more ds c are.1 is)

pub count_more : (cuts : List Cut) (c : Cut) → count_runs (cuts ++ c ∷ []) ≡ count_runs cuts + length c.runs
count_more [] c = omega arith
count_more (d ∷ ds) c = omega (arith, count_more ds c)

pub first_more : (works : List Work) (i : ℕ) (x : Work) (cuts : List Cut) (c : Cut) → i < length works → x ≡ get_or works i x → map work_of cuts ≡ take i works → c.work ≡ x → map work_of (cuts ++ c ∷ []) ≡ take (i + 1) works
first_more works i x cuts c lt here first is =
    rw (add-one i)
    (map-append work_of cuts (c ∷ [])
    ∙ (λ j. first j ++ is j ∷ [])
    ∙ sym (take_at works i x lt here))

pub cut_at : (cuts : List Cut) (i : ℕ) (x : Cut) → AreCuts cuts → i < length cuts → x ≡ get_or cuts i x → IsCut x
cut_at [] i x are lt here = absurd (omega arith)
cut_at (c ∷ cs) zero x are lt here = subst IsCut (sym here) are.0
cut_at (c ∷ cs) (suc i) x are lt here = cut_at cs i x are.1 (omega arith) here

pub cut_fits : (cuts : List Cut) (i : ℕ) (x : Cut) → are_fit (map cut_part cuts) ≡ true → i < length cuts → x ≡ get_or cuts i x → is_fit x.work.node.now x.work.dues.now ≡ true
cut_fits [] i x fit lt here = absurd (omega arith)
cut_fits (c ∷ cs) zero x fit lt here = ap (λ (d : Cut). is_fit d.work.node.now d.work.dues.now) here ∙ (fit_first c cs fit).0
cut_fits (c ∷ cs) (suc i) x fit lt here = cut_fits cs i x (fit_first c cs fit).1 (omega arith) here

-- the first of some models have their runs too
pub cuts_taken : (n : ℕ) (cuts : List Cut) → AreCuts cuts → AreCuts (take n cuts)
cuts_taken zero cs are = tt
cuts_taken (suc n) [] are = tt
cuts_taken (suc n) (c ∷ cs) are = (are.0, cuts_taken n cs are.1)

pub count_taken : (n : ℕ) (cuts : List Cut) → count_runs (take n cuts) ≤ count_runs cuts
count_taken zero cs = omega arith
count_taken (suc n) [] = omega arith
count_taken (suc n) (c ∷ cs) = omega (arith, count_taken n cs)

module _ (all : List Planned) where
  drop_pool : (ps : List (List Input)) (i : ℕ) → i < length ps → (t : List Input) × (drop i ps ≡ t ∷ drop (suc i) ps)
  drop_pool [] i lt = absurd (omega arith)
  drop_pool (p ∷ ps) zero lt = (p, refl)
  drop_pool (p ∷ ps) (suc i) lt = drop_pool ps i (omega arith)

  -- one more model was made and filled
  pub parts_more : (cuts : List Cut) (pools : List (List Input)) (i : ℕ) (x : Cut) (rest own behind : List (List (List Cell))) (n : ℕ) (before after target : List Change)
      → i < length cuts → x ≡ get_or cuts i x → length pools ≡ length cuts
      → rest ≡ cut_rows (drop i cuts) (drop i pools) → before ++ front_changes all (map cut_part (drop i cuts)) (drop i pools) ≡ target
      → n ≡ min (length x.runs) (length rest) → own ≡ take n rest → behind ≡ drop n rest
      → ((t : List Input) → own ≡ part_rows_of x t → after ≡ before ++ part_changes all (cut_part x) t)
      → (behind ≡ cut_rows (drop (i + 1) cuts) (drop (i + 1) pools)) × (after ++ front_changes all (map cut_part (drop (i + 1) cuts)) (drop (i + 1) pools) ≡ target)
  parts_more cuts pools i x rest own behind n before after target lt here len rest_is so_far n_is own_is behind_is more =
      let q = drop_pool pools i (omega (arith, len, lt)) in
      let t : List Input = q.0 in
      let dc : List Cut = drop (suc i) cuts in
      let dp : List (List Input) = drop (suc i) pools in
      let cs : drop i cuts ≡ x ∷ dc = drop_at cuts i x lt here in
      let parted : rest ≡ part_rows_of x t ++ cut_rows dc dp = rest_is ∙ (λ j. cut_rows (cs j) (q.1 j)) in
      let many : n ≡ min (length x.runs) (length (part_rows_of x t ++ cut_rows dc dp)) = n_is ∙ ap (λ (l : List (List (List Cell))). min (length x.runs) (length l)) parted in
      let runs : length x.runs ≡ length (part_rows_of x t) = sym (length-map x.runs (run_rows (work_model x.work) t)) in
      let own_rows : own ≡ part_rows_of x t = own_is ∙ (λ j. take (many j) (parted j)) ∙ front_taken (length x.runs) (part_rows_of x t) (cut_rows dc dp) runs in
      let left : behind ≡ cut_rows dc dp = behind_is ∙ (λ j. drop (many j) (parted j)) ∙ front_dropped (length x.runs) (part_rows_of x t) (cut_rows dc dp) runs in
      let more_rest : List Change = front_changes all (map cut_part dc) dp in
      let all_is : after ++ more_rest ≡ target =
      ap (λ (l : List Change). l ++ more_rest) (more t own_rows) ∙ append_assoc before (part_changes all (cut_part x) t) more_rest
      ∙ sym (λ j. before ++ front_changes all (map cut_part (cs j)) (q.1 j)) ∙ so_far in
      rw (add-one i) (left, all_is)
