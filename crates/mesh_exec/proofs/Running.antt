-- The due parts of a model stand in runs.
use Rattle.std.proofs.Common.{◌≡◌, ◌≤◌, ◌<◌, ◌+◌, ◌-◌, ℕ, zero, suc, ℤ, Bool, true, false, cond, List, [], ◌∷◌, ◌++◌, length, take, drop, get_or, Some, refl, sym, ap, ◌∙◌, subst, arith, append_assoc, add-one}
use Rattle.std.specs.List.{flat_map, list_all}
use Rattle.std.specs.declared.option.Option.{Option}
use Rattle.std.proofs.lemmas.List.{append-nil, drop_all}
use Rattle.std.proofs.lemmas.List.Folds.{list_all-append}
use Rattle.std.proofs.lemmas.Grind.{flat_map-append}
use Rattle.std.proofs.lemmas.Bool.{and_from as both_are}
use Rattle.mesh_base_values.proofs.Tests.{both_parts as is_both}
use Rattle.mesh_base.specs.declared.plans.Due.{Due}
use Rattle.mesh_base.specs.declared.snapshots.Node.{Node}
use Rattle.mesh_lineage.specs.Joinable.{is_joinable}
use Rattle.mesh_base.specs.rules.Proper.{is_body_of}
use Rattle.mesh_exec_works.specs.Executable.{is_due_of}
use Rattle.mesh_exec_works.specs.Works.{is_fit}
use Rattle.mesh_exec.specs.declared.runs.Run.{Run}
use Rattle.mesh_exec.specs.Runs.{AreRunsOf, are_fit_runs, dues_in, end_of, goes_all_on, goes_on, is_fit_run, is_run, onward, run_ahead}

module _ {X : Type 0} where
  pub drop_at : (xs : List X) (i : ℕ) (x : X) → i < length xs → x ≡ get_or xs i x → drop i xs ≡ x ∷ drop (suc i) xs
  drop_at [] i x lt here = absurd (omega arith)
  drop_at (y ∷ ys) zero x lt here = ap (λ (z : X). z ∷ ys) (sym here)
  drop_at (y ∷ ys) (suc i) x lt here = drop_at ys i x (omega arith) here

  pub take_at : (xs : List X) (i : ℕ) (x : X) → i < length xs → x ≡ get_or xs i x → take (suc i) xs ≡ take i xs ++ x ∷ []
  take_at [] i x lt here = absurd (omega arith)
  take_at (y ∷ ys) zero x lt here = ap (λ (z : X). z ∷ []) (sym here)
  take_at (y ∷ ys) (suc i) x lt here = ap (λ (l : List X). y ∷ l) (take_at ys i x (omega arith) here)

  pub all_take : (f : X → Bool) (n : ℕ) (xs : List X) → list_all f xs ≡ true → list_all f (take n xs) ≡ true
  all_take f zero xs h = refl
  all_take f (suc n) [] h = refl
  all_take f (suc n) (x ∷ xs) h = let b = is_both (f x) (list_all f xs) h in both_are (f x) (list_all f (take n xs)) b.0 (all_take f n xs b.1)

  pub all_drop : (f : X → Bool) (n : ℕ) (xs : List X) → list_all f xs ≡ true → list_all f (drop n xs) ≡ true
  all_drop f zero xs h = h
  all_drop f (suc n) [] h = refl
  all_drop f (suc n) (x ∷ xs) h = all_drop f n xs (is_both (f x) (list_all f xs) h).1

-- the longest run that leads some due parts, as far as it was gone through
module _ (joins : Bool) (dues : List Due) where
  onward_none : (most : ℕ) (last : Option ℤ) → onward most joins last [] ≡ []
  onward_none zero last = refl
  onward_none (suc most) last = refl

  onward_stops : (most : ℕ) (last : Option ℤ) (d : Due) (ds : List Due) → goes_on joins last d ≡ false → onward most joins last (d ∷ ds) ≡ []
  onward_stops zero last d ds h = refl
  onward_stops (suc most) last d ds h = ap (λ b. cond b (d ∷ onward most joins (Some (end_of d)) ds) []) h

  pub on_more : (i : ℕ) (x : Due) (last : Option ℤ) → i < length dues → x ≡ get_or dues i x → i < 256 → goes_on joins last x ≡ true
      → take i dues ++ onward (256 - i) joins last (drop i dues) ≡ take (i + 1) dues ++ onward (256 - (i + 1)) joins (Some (end_of x)) (drop (i + 1) dues)
  on_more i x last lt here more on =
      let rest : List Due = onward (256 - suc i) joins (Some (end_of x)) (drop (suc i) dues) in
      let left : 256 - i ≡ suc (256 - suc i) = omega (arith, more) in
      rw (add-one i)
      (ap (λ (l : List Due). take i dues ++ onward (256 - i) joins last l) (drop_at dues i x lt here)
      ∙ ap (λ (k : ℕ). take i dues ++ onward k joins last (x ∷ drop (suc i) dues)) left
      ∙ ap (λ (b : Bool). take i dues ++ cond b (x ∷ rest) []) on
      ∙ sym (append_assoc (take i dues) (x ∷ []) rest)
      ∙ ap (λ (l : List Due). l ++ rest) (sym (take_at dues i x lt here)))

  pub on_full : (i : ℕ) (last : Option ℤ) → 256 ≤ i → take i dues ++ onward (256 - i) joins last (drop i dues) ≡ take i dues
  on_full i last le =
      let none : 256 - i ≡ 0 = omega (arith, le) in
      ap (λ (k : ℕ). take i dues ++ onward k joins last (drop i dues)) none ∙ append-nil (take i dues)

  pub on_stops : (i : ℕ) (x : Due) (last : Option ℤ) → i < length dues → x ≡ get_or dues i x → goes_on joins last x ≡ false → take i dues ++ onward (256 - i) joins last (drop i dues) ≡ take i dues
  on_stops i x last lt here stops =
      ap (λ (l : List Due). take i dues ++ onward (256 - i) joins last l) (drop_at dues i x lt here)
      ∙ ap (λ (l : List Due). take i dues ++ l) (onward_stops (256 - i) last x (drop (suc i) dues) stops)
      ∙ append-nil (take i dues)

  pub on_ends : (i : ℕ) (last : Option ℤ) → length dues ≤ i → take i dues ++ onward (256 - i) joins last (drop i dues) ≡ take i dues
  on_ends i last le =
      ap (λ (l : List Due). take i dues ++ onward (256 - i) joins last l) (drop_all i dues le)
      ∙ ap (λ (l : List Due). take i dues ++ l) (onward_none (256 - i) last)
      ∙ append-nil (take i dues)

-- what leads is a run
onward_goes : (most : ℕ) (joins : Bool) (last : Option ℤ) (ds : List Due) → goes_all_on joins last (onward most joins last ds) ≡ true
onward_goes zero joins last ds = refl
onward_goes (suc most) joins last [] = refl
onward_goes (suc most) joins last (d ∷ ds) = at (goes_on joins last d) refl (onward_goes most joins (Some (end_of d)) ds)
  where
    rest : List Due
    rest = onward most joins (Some (end_of d)) ds

    at : (b : Bool) → goes_on joins last d ≡ b → goes_all_on joins (Some (end_of d)) rest ≡ true → goes_all_on joins last (cond b (d ∷ rest) []) ≡ true
    at true on more = both_are (goes_on joins last d) (goes_all_on joins (Some (end_of d)) rest) on more
    at false on more = refl

ahead_is_run : (joins : Bool) (dues : List Due) → 0 < length dues → is_run joins (run_ahead joins dues) ≡ true
ahead_is_run joins [] lt = absurd (omega arith)
ahead_is_run joins (d ∷ ds) lt = onward_goes 255 joins (Some (end_of d)) ds

-- a run that leads has a part
pub ahead_has : (joins : Bool) (dues : List Due) (n : ℕ) → 0 < length dues → take n dues ≡ run_ahead joins dues → 0 < n
ahead_has joins [] n lt is = absurd (omega arith)
ahead_has joins (d ∷ ds) zero lt is = absurd (let e : [] ≡ d ∷ onward 255 joins (Some (end_of d)) ds = is in cc)
ahead_has joins (d ∷ ds) (suc n) lt is = omega arith

-- some runs have come, and the others are left
pub record SoFar (joins : Bool) (dues : List Due) (runs : List Run) (rest : List Due) : Type 0 where
  pub whole : flat_map dues_in runs ++ rest ≡ dues
  pub each : list_all (λ r. is_run joins (dues_in r)) runs ≡ true

pub begun : (joins : Bool) (dues : List Due) → SoFar joins dues [] dues
begun joins dues = record { whole = refl; each = refl }

pub one_more : (joins : Bool) (dues rest run behind : List Due) (runs more : List Run) (r : Run) (n : ℕ) → SoFar joins dues runs rest → 0 < length rest → take n rest ≡ run_ahead joins rest → run ≡ take n rest → behind ≡ drop n rest
    → dues_in r ≡ run → more ≡ runs ++ r ∷ [] → SoFar joins dues more behind
one_more joins dues rest run behind runs more r n so_far lt ahead run_is behind_is r_is more_is =
    subst (λ (l : List Run). SoFar joins dues l behind) (sym more_is) (record {
      whole =
          ap (λ (l : List Due). l ++ behind) (flat_map-append dues_in runs (r ∷ []))
          ∙ append_assoc (flat_map dues_in runs) (flat_map dues_in (r ∷ [])) behind
          ∙ (λ i. flat_map dues_in runs ++ ((append-nil (dues_in r) ∙ r_is ∙ run_is) i ++ behind_is i))
          ∙ ap (λ (l : List Due). flat_map dues_in runs ++ l) (taken n rest)
          ∙ so_far.whole;
      each =
          list_all-append (λ (s : Run). is_run joins (dues_in s)) runs (r ∷ [])
          ∙ both_are (list_all (λ (s : Run). is_run joins (dues_in s)) runs) (list_all (λ (s : Run). is_run joins (dues_in s)) (r ∷ [])) so_far.each
          (both_are (is_run joins (dues_in r)) true (ap (is_run joins) (r_is ∙ run_is ∙ ahead) ∙ ahead_is_run joins rest lt) refl);
    })
  where
    taken : (k : ℕ) (xs : List Due) → take k xs ++ drop k xs ≡ xs
    taken zero xs = refl
    taken (suc k) [] = refl
    taken (suc k) (x ∷ xs) = ap (λ (l : List Due). x ∷ l) (taken k xs)

pub all_come : (joins : Bool) (dues rest : List Due) (runs : List Run) → SoFar joins dues runs rest → length rest ≤ 0 → AreRunsOf joins dues runs
all_come joins dues [] runs so_far le = record { whole = sym (append-nil (flat_map dues_in runs)) ∙ so_far.whole; each = so_far.each }
all_come joins dues (d ∷ ds) runs so_far le = absurd (omega arith)

-- the runs of what fits a model fit it
all_fit : (n : Node) (joins : Bool) (runs : List Run) → joins ≡ is_joinable n.own → list_all (λ r. is_run joins (dues_in r)) runs ≡ true → list_all (is_due_of (Some n)) (flat_map dues_in runs) ≡ true → are_fit_runs n runs ≡ true
all_fit n joins [] is each fit = refl
all_fit n joins (r ∷ rs) is each fit =
    let e = is_both (is_run joins (dues_in r)) (list_all (λ (s : Run). is_run joins (dues_in s)) rs) each in
    let f = is_both (list_all (is_due_of (Some n)) (dues_in r)) (list_all (is_due_of (Some n)) (flat_map dues_in rs)) (sym (list_all-append (is_due_of (Some n)) (dues_in r) (flat_map dues_in rs)) ∙ fit) in
    both_are (is_fit_run n r) (are_fit_runs n rs)
    (both_are (is_run (is_joinable n.own) (dues_in r)) (list_all (is_due_of (Some n)) (dues_in r)) (ap (λ (b : Bool). is_run b (dues_in r)) (sym is) ∙ e.0) f.0)
    (all_fit n joins rs is e.1 f.1)

pub runs_fit : (n : Node) (dues : List Due) (runs : List Run) → AreRunsOf (is_joinable n.own) dues runs → is_fit n dues ≡ true → are_fit_runs n runs ≡ true
runs_fit n dues runs are fit =
    let f = is_both (is_body_of n.own.kind n.own.defn) (list_all (is_due_of (Some n)) dues) fit in
    all_fit n (is_joinable n.own) runs refl are.each (ap (list_all (is_due_of (Some n))) are.whole ∙ f.1)

-- some of the runs from a place on fit it too
pub some_fit : (n : Node) (runs front : List Run) (at : ℕ) → front ≡ take 256 (drop at runs) → are_fit_runs n runs ≡ true → are_fit_runs n front ≡ true
some_fit n runs front at is fit = ap (are_fit_runs n) is ∙ all_take (is_fit_run n) 256 (drop at runs) (all_drop (is_fit_run n) at runs fit)
