-- The first run of what is due, and the runs behind it.
use Rattle.std.proofs.Common.{◌≡◌, ℕ, suc, ◌+◌, ◌-◌, ◌<◌, Bool, true, false, List, [], ◌∷◌, ◌++◌, length, take, drop, refl, sym, ap, ◌∙◌, get_or, arith, length-drop}
use Rattle.std.specs.List.{flat_map}
use Rattle.std.proofs.lemmas.List.{drop_more}
use Rattle.std.specs.Prelude.{if◌then◌else◌}
use Rattle.mesh_base.specs.declared.plans.Due.{Due}
use Rattle.mesh_base.specs.declared.snapshots.Node.{Node}
use Rattle.mesh_cli_print.specs.plans.PlanText.{run_line, run_lines}
use Rattle.mesh_cli_print.specs.plans.Runs.{adjoin, first_run, in_front, runs}

-- the first run has one at least
pub first_run_is : (d : Due) (ds : List Due) → (n : ℕ) × (first_run (d ∷ ds) ≡ suc n)
first_run_is d [] = (0, refl)
first_run_is d (e ∷ es) = by (adjoin d e) refl
  where
    by : (b : Bool) → adjoin d e ≡ b → (n : ℕ) × (first_run (d ∷ e ∷ es) ≡ suc n)
    by true is = (first_run (e ∷ es), ap (λ (c : Bool). if c then suc (first_run (e ∷ es)) else 1) is)
    by false is = (0, ap (λ (c : Bool). if c then suc (first_run (e ∷ es)) else 1) is)

abbrev Splits : Due → List Due → Type 0
Splits d ds = runs (d ∷ ds) ≡ take (first_run (d ∷ ds)) (d ∷ ds) ∷ runs (drop (first_run (d ∷ ds)) (d ∷ ds))

next_to : (d e : Due) (es : List Due) (n : ℕ) → first_run (e ∷ es) ≡ suc n → Splits e es → (b : Bool) → adjoin d e ≡ b → Splits d (e ∷ es)
next_to d e es n is known true joined =
    let front : runs (d ∷ e ∷ es) ≡ in_front d ((e ∷ take n es) ∷ runs (drop n es)) = ap (in_front d) (known ∙ ap (λ k. take k (e ∷ es) ∷ runs (drop k (e ∷ es))) is) in
    let count : first_run (d ∷ e ∷ es) ≡ suc (suc n) = ap (λ (c : Bool). if c then suc (first_run (e ∷ es)) else 1) joined ∙ ap suc is in
    front
    ∙ ap (λ (c : Bool). if c then (d ∷ e ∷ take n es) ∷ runs (drop n es) else (d ∷ []) ∷ (e ∷ take n es) ∷ runs (drop n es)) joined
    ∙ sym (ap (λ k. take k (d ∷ e ∷ es) ∷ runs (drop k (d ∷ e ∷ es))) count)
next_to d e es n is known false apart =
    let front : runs (d ∷ e ∷ es) ≡ in_front d ((e ∷ take n es) ∷ runs (drop n es)) = ap (in_front d) (known ∙ ap (λ k. take k (e ∷ es) ∷ runs (drop k (e ∷ es))) is) in
    let count : first_run (d ∷ e ∷ es) ≡ 1 = ap (λ (c : Bool). if c then suc (first_run (e ∷ es)) else 1) apart in
    front
    ∙ ap (λ (c : Bool). if c then (d ∷ e ∷ take n es) ∷ runs (drop n es) else (d ∷ []) ∷ (e ∷ take n es) ∷ runs (drop n es)) apart
    ∙ sym (ap (λ rs. (d ∷ []) ∷ rs) (known ∙ ap (λ k. take k (e ∷ es) ∷ runs (drop k (e ∷ es))) is))
    ∙ sym (ap (λ k. take k (d ∷ e ∷ es) ∷ runs (drop k (d ∷ e ∷ es))) count)

pub runs_split : (d : Due) (ds : List Due) → Splits d ds
runs_split d [] = refl
runs_split d (e ∷ es) = let (n, is) = first_run_is e es in next_to d e es n is (runs_split e es) (adjoin d e) refl

-- a unit that doesn't adjoin the next one ends its run, and else the run goes on
pub ends_here : (ds : List Due) (i : ℕ) (d e : Due) → i + 1 < length ds → adjoin (get_or ds i d) (get_or ds (i + 1) e) ≡ false → first_run (drop i ds) ≡ 1
ends_here ds i d e inside apart =
    ap first_run (drop_more ds i d (omega arith) ∙ ap (λ l. get_or ds i d ∷ l) (drop_more ds (i + 1) e inside))
    ∙ ap (λ (c : Bool). if c then suc (first_run (get_or ds (i + 1) e ∷ drop (i + 1 + 1) ds)) else 1) apart

pub goes_on : (ds : List Due) (i : ℕ) (d e : Due) → i + 1 < length ds → adjoin (get_or ds i d) (get_or ds (i + 1) e) ≡ true → first_run (drop i ds) ≡ suc (first_run (drop (i + 1) ds))
goes_on ds i d e inside joined =
    ap first_run (drop_more ds i d (omega arith) ∙ ap (λ l. get_or ds i d ∷ l) (drop_more ds (i + 1) e inside))
    ∙ ap (λ (c : Bool). if c then suc (first_run (get_or ds (i + 1) e ∷ drop (i + 1 + 1) ds)) else 1) joined
    ∙ ap (λ l. suc (first_run l)) (sym (drop_more ds (i + 1) e inside))

pub last_one : (ds : List Due) (i : ℕ) → i + 1 ≡ length ds → first_run (drop i ds) ≡ 1
last_one ds i is = by (drop i ds) (length-drop i ds)
  where
    by : (l : List Due) → length l ≡ length ds - i → first_run l ≡ 1
    by [] e = absurd (omega arith)
    by (d ∷ []) e = refl
    by (d ∷ x ∷ l) e = absurd (omega arith)

-- the lines of all runs begin with that of the first one
pub lines_split : (nodes : List Node) (ds : List Due) → 0 < length ds → run_lines nodes ds ≡ run_line nodes (take (first_run ds) ds) ++ run_lines nodes (drop (first_run ds) ds)
lines_split nodes [] some = absurd (omega arith)
lines_split nodes (d ∷ ds) some = ap (flat_map (run_line nodes)) (runs_split d ds)

pub some_first : (ds : List Due) → 0 < length ds → 0 < first_run ds
some_first [] some = absurd (omega arith)
some_first (d ∷ ds) some = let (n, is) = first_run_is d ds in omega (arith, is)
