-- The keys of a SELECT, and its conditions, have operands that fit.
use Rattle.std.proofs.Common.{◌≡◌, ℕ, zero, suc, ℤ, pos, negsuc, Bool, true, false, cond, Option, Some, None, Ok, List, [], ◌∷◌, ◌++◌, refl, subst}
use Rattle.std.specs.List.{AllByRecursion as Each, slice_get}
use Rattle.std.specs.Option.{ForSome, option_map}
use Rattle.mesh_base_values.specs.declared.values.Column.{Column}
use Rattle.mesh_base_values.specs.Picked.{same_text}
use Rattle.mesh_base.specs.declared.expressions.Expr.{Expr, out-Expr}
use Rattle.mesh_query_grammar.specs.declared.surface.expressions.OrExpr.{OrExpr, out-OrExpr}
use Rattle.mesh_resolve_types.specs.declared.typed.Typed.{Typed}
use Rattle.mesh_resolve_scope.specs.declared.sight.sight.Sight.{Sight}
use Rattle.mesh_resolve_scope.specs.Expressions.{typed}
use Rattle.mesh_resolve_scope.specs.Lone.{lone_name}
use Rattle.mesh_resolve_selects.specs.declared.outputs.keys.Key.{Key}
use Rattle.mesh_resolve_selects.specs.declared.outputs.keys.Key.TheVariants as written
use Rattle.mesh_resolve_selects.specs.declared.outputs.outputs.Output.{Output}
use Rattle.mesh_resolve_selects.specs.outputs.Keys.{by_number, is_input, item_meant, item_or_missing, key, key_by, key_expr, key_exprs, keys, number_of, one_key, output_named}
use Rattle.mesh_resolve.specs.Relations.{condition}
use Rattle.mesh_resolve.specs.Selects.{some_condition}
use Rattle.mesh_law_reading.specs.Typed.{HasColumns}
use Rattle.mesh_law_reading.proofs.Good.{Good, along_good}
use Rattle.mesh_law_reading.proofs.TypingForms.{passed, same_ok}
use Rattle.mesh_law_reading.proofs.TypingFrom.{condition_typed}
use Rattle.mesh_law_reading.proofs.TypingItems.{OutputFits}
use Rattle.mesh_law_reading.proofs.TypingLists.{each_append, each_flat_map}
use Rattle.mesh_law_reading.proofs.TypingMeets.{Meets, typed_holds}

-- what an option has once it is changed
pub for_changed : {A B : Type 0} (P : A → Type 0) (R : B → Type 0) (f : A → B) → ((x : A) → P x → R (f x)) → (o : Option A) → ForSome o P → ForSome (option_map f o) R
for_changed P R f h None p = λ y e. absurd (cc)
for_changed P R f h (Some x) p = λ y e. let one : f x ≡ y = cc in subst R one (h x (p x refl))

module _ (columns : List (List Column)) (sight : Sight) (h : HasColumns columns sight) where
  pub some_condition_meets : (e : Option OrExpr) (found : Option Typed) → some_condition sight e ≡ Ok found → ForSome found (λ (t : Typed). Meets columns t.expr)
  some_condition_meets None found is = subst (λ o. ForSome o (λ (t : Typed). Meets columns t.expr)) (same_ok None found is) (λ t e. absurd (cc))
  some_condition_meets (Some e) found is =
      let (t, tested, made) = passed (condition sight e) (λ t. Ok (Some t)) found is in
      subst (λ o. ForSome o (λ (t : Typed). Meets columns t.expr)) (same_ok (Some t) found made)
      (λ x same. let one : t ≡ x = cc in subst (λ (t : Typed). Meets columns t.expr) one (typed_holds columns sight h e t (condition_typed sight e t tested)).1)

  abbrev KeyMeets : Key → Type 0
  KeyMeets k = Each (Meets columns) (key_expr k)

  named_meets : (outputs : List Output) → Each (OutputFits columns) outputs → (name : List ℕ) (e : Expr) → output_named outputs name ≡ Some e → Meets columns e
  named_meets [] all name e is = absurd (cc)
  named_meets (o ∷ os) all name e is = go (same_text o.name name) is (λ is. named_meets os all.1 name e is)
    where
      go : (b : Bool) → cond b (Some o.typed.expr) (output_named os name) ≡ Some e → (output_named os name ≡ Some e → Meets columns e) → Meets columns e
      go true is more = subst (Meets columns) (cc) all.0.1
      go false is more = more is

  at_place : (outputs : List Output) → Each (OutputFits columns) outputs → (at n : ℕ) → KeyMeets (item_or_missing at (slice_get outputs n))
  at_place [] all at n = tt
  at_place (o ∷ os) all at zero = (all.0.1, tt)
  at_place (o ∷ os) all at (suc n) = at_place os all.1 at n

  by_number_meets : (outputs : List Output) → Each (OutputFits columns) outputs → (at : ℕ) (t : Typed) → Meets columns t.expr → (n : Option ℤ) → KeyMeets (by_number at outputs t n)
  by_number_meets outputs all at t m None = (m, tt)
  by_number_meets outputs all at t m (Some (pos zero)) = tt
  by_number_meets outputs all at t m (Some (pos (suc n))) = at_place outputs all at n
  by_number_meets outputs all at t m (Some (negsuc n)) = tt

  meant_meets : (outputs : List Output) → Each (OutputFits columns) outputs → (name : Option (List ℕ)) (e : Expr) → item_meant sight outputs name ≡ Some e → Meets columns e
  meant_meets outputs all None e is = absurd (cc)
  meant_meets outputs all (Some name) e is = go (is_input name sight.from) is
    where
      go : (b : Bool) → cond b None (output_named outputs name) ≡ Some e → Meets columns e
      go true is = absurd (cc)
      go false is = named_meets outputs all name e is

  key_meets : (outputs : List Output) → Each (OutputFits columns) outputs → (e : OrExpr) → Good KeyMeets (key sight outputs e)
  unfolding key
  key_meets outputs all e k is = go (item_meant sight outputs (lone_name e)) refl is
    where
      go : (o : Option Expr) → item_meant sight outputs (lone_name e) ≡ o → key_by sight outputs e o ≡ Ok k → KeyMeets k
      go None was is =
          let (t, found, made) = passed (typed sight e) (λ t. Ok (by_number (out-OrExpr e).at outputs t (number_of (out-Expr t.expr)))) k is in
          subst KeyMeets (same_ok (by_number (out-OrExpr e).at outputs t (number_of (out-Expr t.expr))) k made)
          (by_number_meets outputs all (out-OrExpr e).at t (typed_holds columns sight h e t found).1 (number_of (out-Expr t.expr)))
      go (Some item) was is =
          subst KeyMeets (same_ok (written.Item (out-OrExpr e).at item) k is) (meant_meets outputs all (lone_name e) item was, tt)

  one_key_meets : (outputs : List Output) → Each (OutputFits columns) outputs → (done : List Key) (e : OrExpr) → Each KeyMeets done → Unit {0}
      → Good (Each KeyMeets) (one_key sight outputs done e)
  one_key_meets outputs all done e p _ next is =
      let (k, found, made) = passed (key sight outputs e) (λ k. Ok (done ++ k ∷ [])) next is in
      subst (Each KeyMeets) (same_ok (done ++ k ∷ []) next made) (each_append KeyMeets done (k ∷ []) p (key_meets outputs all e k found, tt))

  all_keys : (es : List OrExpr) → Each (λ (e : OrExpr). Unit {0}) es
  all_keys [] = tt
  all_keys (e ∷ es) = (tt, all_keys es)

  pub keys_meet : (outputs : List Output) → Each (OutputFits columns) outputs → (es : List OrExpr) (ks : List Key) → keys sight outputs es ≡ Ok ks
      → Each (Meets columns) (key_exprs ks)
  unfolding keys
  keys_meet outputs all es ks is =
      each_flat_map KeyMeets (Meets columns) key_expr (λ k m. m) ks
      (along_good (Each KeyMeets) (λ (e : OrExpr). Unit {0}) (one_key sight outputs) (one_key_meets outputs all) [] tt es (all_keys es) ks is)
