-- Items that are pushed one after another, and what they are made of.
use Rattle.std.proofs.Common.{◌≡◌, ◌⊎◌, ⊎_elim, ℕ, ℤ, ◌+◌, ◌<◌, List, [], ◌∷◌, ◌++◌, length, drop, get_or, Ok, Err, Result, sym, ap, subst, ◌∙◌, append_assoc, add-one}
use Rattle.std.specs.Prelude.{IfOk, OnOk}
use Rattle.std.proofs.lemmas.List.{drop_more}
use Rattle.mesh_base_values.specs.declared.kinds.Kind.{Kind}
use Rattle.mesh_base_values.specs.declared.kinds.Kind.TheVariants.{Full, Seed}
use Rattle.mesh_base_values.specs.declared.values.Cell.{Cell}
use Rattle.mesh_base.specs.declared.plans.Due.{Due}
use Rattle.mesh_base.specs.declared.plans.Due.TheVariants.{Whole}
use Rattle.mesh_base.specs.declared.plans.Entry.{Entry}
use Rattle.mesh_base.specs.declared.snapshots.Node.{Node}
use Rattle.mesh_house.specs.declared.world.Change.TheVariants.{RecordMarks, ReplaceRows}
use Rattle.mesh_spec_changes.specs.due.Plans.{Planned}
use Rattle.mesh_exec_works.specs.Dues.{behind, leading}
use Rattle.mesh_exec_works.specs.Plain.{model_of, plain_models}
use Rattle.mesh_exec_works.specs.Works.{parts_from}
use Rattle.mesh_exec_works.specs.Written.{written}

-- an item that was pushed is what was made
pub pushed_one : {Y E : Type 0} (was new : List Y) (y : Y) (item : Result Y E) → IfOk item (λ z. z ≡ y) → (z : Y) × (item ≡ Ok z) × (new ≡ was ++ z ∷ []) → new ≡ was ++ y ∷ []
pushed_one {Y} {E} was new y item made (z, is, last) =
    let same : z ≡ y = subst (λ (q : Result Y E). IfOk q (λ k. k ≡ y)) is made in
    last ∙ ap (λ (k : Y). was ++ k ∷ []) same

-- and where it is the second, both stand behind
pub two_pushed : {Y E F R : Type 0} (first : List Y) (x y : Y) (was new : List Y) (before item : Result Y E) (r : Result R F) (target : List Y) → (z : Y) × (before ≡ Ok z) × (was ≡ first ++ z ∷ []) → IfOk before (λ z. z ≡ x) → IfOk item (λ z. z ≡ y) → target ≡ x ∷ y ∷ []
    → OnOk r ((z : Y) × (item ≡ Ok z) × (new ≡ was ++ z ∷ [])) → OnOk r (new ≡ first ++ target)
two_pushed first x y was new before item (Err e) target one made_x made_y is last = tt
two_pushed {Y} first x y was new before item (Ok u) target one made_x made_y is last =
    pushed_one was new y item made_y last
    ∙ ap (λ (l : List Y). l ++ y ∷ []) (pushed_one first was x before made_x one)
    ∙ append_assoc first (x ∷ []) (y ∷ [])
    ∙ ap (λ (l : List Y). first ++ l) (sym is)

-- the first of what is left comes to what has come
pub next_pushed : {Y : Type 0} (was new : List Y) (y : Y) (rest left target : List Y) → new ≡ was ++ y ∷ [] → left ≡ y ∷ rest → was ++ left ≡ target → new ++ rest ≡ target
next_pushed {Y} was new y rest left target pushed is so_far =
    ap (λ (l : List Y). l ++ rest) pushed ∙ append_assoc was (y ∷ []) rest ∙ ap (λ (l : List Y). was ++ l) (sym is) ∙ so_far

-- the next model of a plan, and what is due of it
module _ (ns : List Node) (es : List Entry) (i : ℕ) (n : Node) (e : Entry) (lt : i < length ns) (node : n ≡ get_or ns i n) (within : i < length es) (entry : e ≡ get_or es i e) where
  nodes_left : drop i ns ≡ n ∷ drop (i + 1) ns
  nodes_left = drop_more ns i n lt ∙ ap (λ (m : Node). m ∷ drop (i + 1) ns) (sym node)

  entries_left : drop i es ≡ e ∷ drop (i + 1) es
  entries_left = drop_more es i e within ∙ ap (λ (m : Entry). m ∷ drop (i + 1) es) (sym entry)

  pub plain_next : plain_models (drop i ns) (drop i es) ≡ model_of n e ∷ plain_models (drop (i + 1) ns) (drop (i + 1) es)
  plain_next = λ j. plain_models (nodes_left j) (entries_left j)

  pub parts_next : (rest front back : List Due) → front ≡ leading i rest → back ≡ behind i rest → parts_from i (drop i ns) (drop i es) rest ≡ record { node = n; entry = e; dues = front } ∷ parts_from (i + 1) (drop (i + 1) ns) (drop (i + 1) es) back
  parts_next rest front back ahead after =
      (λ j. parts_from i (nodes_left j) (entries_left j) rest)
      ∙ (λ j. record { node = n; entry = e; dues = sym ahead j } ∷ parts_from (sym (add-one i) j) (drop (i + 1) ns) (drop (i + 1) es) (sym after j))

-- a table is filled as a whole
pub whole_written : (p : Planned) (k : Kind) (d : Due) (place : ℕ) (marks : List ℤ) (rows : List (List Cell)) → (k ≡ Full) ⊎ (k ≡ Seed) → d ≡ Whole place marks → written p k d rows ≡ ReplaceRows p.object rows ∷ RecordMarks p.object marks ∷ []
whole_written p k d place marks rows kind due = ⊎_elim (λ is. λ i. written p (is i) (due i) rows) (λ is. λ i. written p (is i) (due i) rows) kind
