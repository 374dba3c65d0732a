-- The items of a SELECT have values of their types.
use Rattle.std.proofs.Common.{◌≡◌, ℕ, Bool, true, false, not, cond, Option, Some, None, Ok, List, [], ◌∷◌, ◌++◌, map, length, nat_le, slice_index_or, refl, ap, sym, subst, ◌∙◌}
use Rattle.std.specs.List.{AllByRecursion as Each}
use Rattle.std.proofs.lemmas.List.Elements.{recursion_from_All}
use Rattle.mesh_base_values.specs.declared.values.Column.{Column}
use Rattle.mesh_base_values.specs.Picked.{kind_of, same_text}
use Rattle.mesh_base_values.proofs.Equals.{text_itself as same_itself}
use Rattle.mesh_base.specs.declared.expressions.Expr as expr
use Rattle.mesh_base.specs.declared.queries.Item.{Item}
use Rattle.mesh_query_grammar.specs.declared.surface.queries.SurfaceItem.{SurfaceItem}
use Rattle.mesh_query_grammar.specs.declared.surface.queries.SurfaceItem.TheVariants.{All, AllOf, Value}
use Rattle.mesh_query_tokens.specs.Walk.{along}
use Rattle.mesh_query_tokens.proofs.Along.{along_append}
use Rattle.mesh_resolve_types.specs.Faults.{duplicate, most_columns, too_many_columns}
use Rattle.mesh_resolve_types.specs.rules.Kinds.{Kind, or_text}
use Rattle.mesh_resolve_scope.specs.declared.sight.sight.Seen.{Seen}
use Rattle.mesh_resolve_scope.specs.declared.sight.sight.Sight.{Sight}
use Rattle.mesh_resolve_scope.specs.sight.Sight.{answers_to, qualified}
use Rattle.mesh_resolve_scope.specs.Expressions.{typed}
use Rattle.mesh_resolve_selects.specs.declared.outputs.outputs.Output.{Output}
use Rattle.mesh_resolve_selects.specs.selects.Apart.{Taken, new_output, with_name}
use Rattle.mesh_resolve_selects.specs.outputs.Outputs.{all_of_one, expanded, item, items, output, resolved_item, starred, within_limit}
use Rattle.mesh_law_reading.specs.Typed.{HasTypeOver, HasColumns}
use Rattle.mesh_law_reading.proofs.Good.{Good, along_good}
use Rattle.mesh_law_reading.proofs.TypingForms.{held, passed}
use Rattle.mesh_law_reading.proofs.TypingMeets.{Holds, Meets, typed_holds}
use Rattle.mesh_law_reading.proofs.TypingOperands.{of_column}
use Rattle.mesh_law_reading.proofs.TypingLists.{each_map, each_append}
use Rattle.mesh_law_reading.proofs.TypingSight.{column_here}

each_both : {X : Type 0} (P R S : X → Type 0) → ((x : X) → P x → R x → S x) → (xs : List X) → Each P xs → Each R xs → Each S xs
each_both P R S h [] p r = tt
each_both P R S h (x ∷ xs) p r = (h x p.0 r.0, each_both P R S h xs p.1 r.1)

cond_true : (b x : Bool) → x ≡ true → cond b true x ≡ true
cond_true true x e = refl
cond_true false x e = e

first_true : (b x : Bool) → b ≡ true → cond b true x ≡ true
first_true true x e = refl
first_true false x e = absurd (cc)

-- names that are taken stay so
taken_after : (taken next : Taken) (name n m : List ℕ) → with_name taken name ≡ next → taken m ≡ true → next m ≡ true
taken_after taken next name n m is h = ap (λ (f : Taken). f m) (sym is) ∙ cond_true (same_text name m) (taken m) h

not_both : (taken : Bool) → taken ≡ true → not taken ≡ true → ⊥
not_both taken p q = let e : false ≡ true = sym (ap not p) ∙ q in cc

-- columns whose names stand once do not have a name that was taken
apart : (n : List ℕ) (taken : Taken) → ((m : List ℕ) → same_text n m ≡ true → taken m ≡ true) → (at : ℕ) (d : Seen) (cs : List Column) (after : Taken)
    → along new_output taken (map (starred at d) cs) ≡ Ok after → Each (λ (c : Column). same_text n c.name ≡ false) cs
unfolding along
apart n taken h at d [] after e = tt
apart n taken h at d (c ∷ cs) after e =
    let (next, is, rest) = passed (new_output taken (starred at d c)) (λ next. along new_output next (map (starred at d) cs)) after e in
    let (fresh, same) = held (not (taken c.name)) (with_name taken c.name) next (duplicate at c.name) is in
    (other (same_text n c.name) refl fresh, apart n next (λ m t. taken_after taken next c.name n m same (h m t)) at d cs after rest)
  where
    other : (b : Bool) → same_text n c.name ≡ b → not (taken c.name) ≡ true → b ≡ false
    other true p fresh = absurd (not_both (taken c.name) (h c.name p) fresh)
    other false p fresh = refl

-- and each is the first of its name
each_first : (taken : Taken) (at : ℕ) (d : Seen) (cs : List Column) (after : Taken) → along new_output taken (map (starred at d) cs) ≡ Ok after
    → Each (λ (c : Column). kind_of cs c.name ≡ c.kind) cs
unfolding along
each_first taken at d [] after e = tt
each_first taken at d (c ∷ cs) after e =
    let (next, is, rest) = passed (new_output taken (starred at d c)) (λ next. along new_output next (map (starred at d) cs)) after e in
    let (fresh, same) = held (not (taken c.name)) (with_name taken c.name) next (duplicate at c.name) is in (
      ap (λ b. cond b c.kind (kind_of cs c.name)) (same_itself c.name),
      each_both (λ (x : Column). same_text c.name x.name ≡ false) (λ (x : Column). kind_of cs x.name ≡ x.kind) (λ (x : Column). kind_of (c ∷ cs) x.name ≡ x.kind)
          (λ x p q. ap (λ b. cond b c.kind (kind_of cs x.name)) p ∙ q) cs
          (apart c.name next (λ m t. ap (λ (f : Taken). f m) (sym same) ∙ first_true (same_text c.name m) (taken m) t) at d cs after rest)
          (each_first next at d cs after rest),
    )

module _ (columns : List (List Column)) where
  abbrev pub OutputFits : Output → Type 0
  OutputFits o = Holds columns o.typed

  -- where their names stand once, outputs fit
  abbrev pub OnceFit : List Output → Type 0
  OnceFit outputs = (taken after : Taken) → along new_output taken outputs ≡ Ok after → Each OutputFits outputs

  abbrev IsHere : Seen → Type 0
  IsHere d = slice_index_or columns d.place [] ≡ d.columns

  both_fit : (xs ys : List Output) → OnceFit xs → OnceFit ys → OnceFit (xs ++ ys)
  both_fit xs ys p q taken after e =
      let (middle, first, rest) = passed (along new_output taken xs) (λ n. along new_output n ys) after (sym (along_append new_output taken xs ys) ∙ e) in
      each_append OutputFits xs ys (p taken middle first) (q middle after rest)

  starred_fits : (at : ℕ) (d : Seen) → slice_index_or columns d.place [] ≡ d.columns → OnceFit (map (starred at d) d.columns)
  starred_fits at d is taken after e =
      each_map (λ (c : Column). kind_of d.columns c.name ≡ c.kind) OutputFits (starred at d)
      (λ c k. (
        subst (λ kind. HasTypeOver columns (Some kind) (expr.Col d.place c.name)) (ap (λ cs. kind_of cs c.name) is ∙ k)
            (column_here columns d.place c.name),
        λ s f. of_column d.place c.name s,
      ))
      d.columns (each_first taken at d d.columns after e)

  expanded_fits : (at : ℕ) (from_item : Option (List ℕ)) (from : List Seen) → Each IsHere from → OnceFit (expanded at from_item from)
  expanded_fits at from_item [] h = λ taken after e. tt
  expanded_fits at from_item (d ∷ ds) h = both_fit (all_of_one at from_item d) (expanded at from_item ds) (go (answers_to from_item d)) (expanded_fits at from_item ds h.1)
    where
      go : (b : Bool) → OnceFit (cond b (map (starred at d) d.columns) [])
      go true = starred_fits at d h.0
      go false = λ taken after e. tt

  module _ (sight : Sight) (h : HasColumns columns sight) where
    limit_fits : (done more : List Output) → OnceFit done → OnceFit more → Good OnceFit (within_limit (done ++ more))
    limit_fits done more p q next e = subst OnceFit (held (nat_le (length (done ++ more)) most_columns) (done ++ more) next too_many_columns e).1 (both_fit done more p q)

    item_fits : (done : List Output) (i : SurfaceItem) → OnceFit done → Unit {0} → Good OnceFit (item sight done i)
    item_fits done (All at) p _ next e = limit_fits done (expanded at None sight.from) p (expanded_fits at None sight.from (recursion_from_All IsHere sight.from h)) next e
    item_fits done (AllOf at name) p _ next e =
        let (there, _, rest) = passed (qualified at (Some name) sight.from) (λ there. within_limit (done ++ expanded at (Some name) sight.from)) next e in
        limit_fits done (expanded at (Some name) sight.from) p (expanded_fits at (Some name) sight.from (recursion_from_All IsHere sight.from h)) next rest
    item_fits done (Value at value alias) p _ next e =
        let (t, is, rest) = passed (typed sight value) (λ t. within_limit (done ++ output at (length done) alias t ∷ [])) next e in
        limit_fits done (output at (length done) alias t ∷ []) p (λ taken after e. (typed_holds columns sight h value t is, tt)) next rest

    all_items : (is : List SurfaceItem) → Each (λ (i : SurfaceItem). Unit {0}) is
    all_items [] = tt
    all_items (i ∷ is) = (tt, all_items is)

    pub items_fit : (all : List SurfaceItem) → Good OnceFit (items sight all)
    unfolding items
    items_fit all = along_good OnceFit (λ (i : SurfaceItem). Unit {0}) (item sight) item_fits [] (λ taken after e. tt) all (all_items all)

  -- an item whose type isn't decided is a TEXT that is NULL
  resolved_fits : (o : Output) → HasTypeOver columns o.typed.kind o.typed.expr → HasTypeOver columns (Some (or_text o.typed.kind)) o.typed.expr
  resolved_fits o = go o.typed.kind
    where
      go : (k : Kind) → HasTypeOver columns k o.typed.expr → HasTypeOver columns (Some (or_text k)) o.typed.expr
      go None p = λ s f. rw (p s f) refl
      go (Some k) p = p

  pub resolved_items_fit : (outputs : List Output) → Each OutputFits outputs → Each (λ (i : Item). HasTypeOver columns (Some i.kind) i.expr) (map resolved_item outputs)
  resolved_items_fit outputs all = each_map OutputFits (λ (i : Item). HasTypeOver columns (Some i.kind) i.expr) resolved_item (λ o h. resolved_fits o h.0) outputs all

  pub resolved_items_meet : (outputs : List Output) → Each OutputFits outputs → Each (λ (i : Item). Meets columns i.expr) (map resolved_item outputs)
  resolved_items_meet outputs all = each_map OutputFits (λ (i : Item). Meets columns i.expr) resolved_item (λ o h. h.1) outputs all
