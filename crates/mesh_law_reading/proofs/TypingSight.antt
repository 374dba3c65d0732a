-- What an expression may name has values of its type.
use Rattle.std.proofs.Common.{◌≡◌, ℕ, Bool, true, false, cond, Option, Some, None, Ok, List, [], ◌∷◌, ◌++◌, slice_index_or, refl, sym, subst, ◌∙◌}
use Rattle.std.specs.List.{AllByRecursion as Each, flat_map}
use Rattle.std.proofs.lemmas.List.Elements.{recursion_from_All}
use Rattle.mesh_base_values.specs.declared.times.Bounds.{Bounds}
use Rattle.mesh_base_values.specs.declared.values.Column.{Column}
use Rattle.mesh_base_values.specs.Picked.{kind_of, same_text}
use Rattle.mesh_base.specs.declared.expressions.Expr as expr
use Rattle.mesh_base.specs.declared.expressions.Var.{Var}
use Rattle.mesh_base.specs.declared.expressions.Var.TheVariants.{StartDate, EndDate, StartDs, EndDs, StartEpoch, EndEpoch}
use Rattle.mesh_model_csv.specs.seeds.Fits.{is_of}
use Rattle.mesh_query_tokens.specs.Gives.{◌>>=◌}
use Rattle.mesh_spec_query.specs.Macros.{macro_value, last_second}
use Rattle.mesh_spec_query.proofs.Nodes as nodes
use Rattle.mesh_resolve_types.specs.declared.typed.Typed.{Typed}
use Rattle.mesh_resolve_types.specs.Forms.{leaf}
use Rattle.mesh_resolve_scope.specs.declared.sight.sight.Meant.{Meant}
use Rattle.mesh_resolve_scope.specs.declared.sight.sight.Seen.{Seen}
use Rattle.mesh_resolve_scope.specs.declared.sight.sight.Sight.{Sight}
use Rattle.mesh_resolve_scope.specs.sight.Sight.{column, column_typed, answers_to, qualified, the_one, meant, meant_by, meant_in, meant_column, macro_typed, macro_or_fault, macro_named, macro_kind}
use Rattle.mesh_law_reading.specs.Typed.{HasTypeOver, HasColumns}
use Rattle.mesh_law_reading.proofs.TypingCells as cells
use Rattle.mesh_law_reading.proofs.TypingForms as forms

-- the first of the columns that a name may mean in a FROM item
first_meant : (d : Seen) (name : List ℕ) (cs : List Column) (m : Meant) (ms : List Meant) → flat_map (meant_column name d) cs ≡ m ∷ ms
    → (m.item ≡ d.place) × (m.kind ≡ kind_of cs name)
first_meant d name [] m ms e = absurd (cc)
first_meant d name (c ∷ cs) m ms e = go (λ e. first_meant d name cs m ms e) (same_text c.name name) e
  where
    go : (flat_map (meant_column name d) cs ≡ m ∷ ms → (m.item ≡ d.place) × (m.kind ≡ kind_of cs name)) → (b : Bool)
        → cond b ((record { item = d.place; kind = c.kind }) ∷ []) [] ++ flat_map (meant_column name d) cs ≡ m ∷ ms
        → (m.item ≡ d.place) × (m.kind ≡ cond b c.kind (kind_of cs name))
    go more true e = (cc, cc)
    go more false e = more e

meant_here : (item : Option (List ℕ)) (name : List ℕ) (d : Seen) (m : Meant) (ms : List Meant) → meant_by item name d ≡ m ∷ ms
    → (m.item ≡ d.place) × (m.kind ≡ kind_of d.columns name)
meant_here item name d m ms e = go (answers_to item d) e
  where
    go : (b : Bool) → cond b (meant_in name d) [] ≡ m ∷ ms → (m.item ≡ d.place) × (m.kind ≡ kind_of d.columns name)
    go true e = first_meant d name d.columns m ms e
    go false e = absurd (cc)

-- the one that it means
one_meant : (at : ℕ) (name : List ℕ) (all : List Meant) (m : Meant) → the_one at name all ≡ Ok m → all ≡ m ∷ []
one_meant at name [] m e = absurd (cc)
one_meant at name (x ∷ []) m e = cc
one_meant at name (x ∷ y ∷ ys) m e = absurd (cc)

macro_is : (var : Var) (u : Bounds) → is_of (macro_kind var) (macro_value var u) ≡ true
macro_is StartDate u = cells.day_of_is u.start
macro_is EndDate u = cells.day_of_is (last_second u)
macro_is StartDs u = cells.day_text_is u.start
macro_is EndDs u = cells.day_text_is (last_second u)
macro_is StartEpoch u = refl
macro_is EndEpoch u = cells.last_is u

module _ (columns : List (List Column)) where
  abbrev IsAt : Seen → Type 0
  IsAt d = slice_index_or columns d.place [] ≡ d.columns

  meant_among : (item : Option (List ℕ)) (name : List ℕ) (from : List Seen) (m : Meant) (ms : List Meant) → Each IsAt from → meant item name from ≡ m ∷ ms
      → m.kind ≡ kind_of (slice_index_or columns m.item []) name
  meant_among item name [] m ms h e = absurd (cc)
  meant_among item name (d ∷ ds) m ms h e = go (λ e. meant_among item name ds m ms h.1 e) (meant_by item name d) refl e
    where
      go : (meant item name ds ≡ m ∷ ms → m.kind ≡ kind_of (slice_index_or columns m.item []) name) → (here : List Meant) → meant_by item name d ≡ here
          → here ++ meant item name ds ≡ m ∷ ms → m.kind ≡ kind_of (slice_index_or columns m.item []) name
      go more [] is e = more e
      go more (x ∷ xs) is e =
          let same : x ≡ m = cc in
          let (place, kind) = meant_here item name d x xs is in
          subst (λ (m : Meant). m.kind ≡ kind_of (slice_index_or columns m.item []) name) same
          (kind ∙ subst (λ p. kind_of d.columns name ≡ kind_of (slice_index_or columns p []) name) (sym place)
          (subst (λ cs. kind_of d.columns name ≡ kind_of cs name) (sym h.0) refl))

  pub column_here : (item : ℕ) (name : List ℕ) → HasTypeOver columns (Some (kind_of (slice_index_or columns item []) name)) (expr.Col item name)
  column_here item name =
      forms.by_form columns (Some (kind_of (slice_index_or columns item []) name)) (expr.Col item name)
      (λ s f none. subst (λ v. is_of (kind_of (slice_index_or columns item []) name) v ≡ true) (sym (nodes.of_column item name s none)) (f.row item name))

  pub column_fits : (sight : Sight) → HasColumns columns sight → (at : ℕ) (item : Option (List ℕ)) (name : List ℕ) (t : Typed) → column sight at item name ≡ Ok t
      → HasTypeOver columns t.kind t.expr
  unfolding column
  column_fits sight h at item name t e =
      let (there, _, found) = forms.passed (qualified at item sight.from)
      (λ there. the_one at name (meant item name sight.from) >>= λ m. Ok (column_typed at name m.item m.kind)) t e in
      let (m, one, made) = forms.passed (the_one at name (meant item name sight.from)) (λ m. Ok (column_typed at name m.item m.kind)) t found in
      subst (λ (t : Typed). HasTypeOver columns t.kind t.expr) (forms.same_ok (column_typed at name m.item m.kind) t made)
      (subst (λ k. HasTypeOver columns (Some k) (expr.Col m.item name))
      (sym (meant_among item name sight.from m [] (recursion_from_All IsAt sight.from h) (one_meant at name (meant item name sight.from) m one))) (column_here m.item name))

  pub macro_here : (var : Var) → HasTypeOver columns (Some (macro_kind var)) (expr.Macro var)
  macro_here var = forms.by_form columns (Some (macro_kind var)) (expr.Macro var)
      (λ s f none. subst (λ v. is_of (macro_kind var) v ≡ true) (sym (nodes.of_macro var s none)) (macro_is var s.bounds))

  pub macro_fits : (sight : Sight) (at : ℕ) (word : List ℕ) (t : Typed) → macro_typed sight at word ≡ Ok t → HasTypeOver columns t.kind t.expr
  unfolding macro_typed
  macro_fits sight at word t e = go (cond sight.macros (macro_named word) None) e
    where
      go : (o : Option Var) → macro_or_fault at word o ≡ Ok t → HasTypeOver columns t.kind t.expr
      go None e = absurd (cc)
      go (Some var) e =
          subst (λ (t : Typed). HasTypeOver columns t.kind t.expr) (forms.same_ok (leaf at (Some (macro_kind var)) (expr.Macro var)) t e)
          (macro_here var)
