-- All that a resolved query names is there.
use Rattle.std.proofs.Common.{◌≡◌, ℕ, ℤ, pos, negsuc, zero, suc, Bool, true, false, cond, List, [], ◌∷◌, ◌++◌, map, length, Option, Some, None, Ok, nat_le, refl, ap, ◌∙◌, subst}
use Rattle.std.specs.List.{AllByRecursion, list_all, slice_get}
use Rattle.std.specs.Option.{ForSome, option_map}
use Rattle.std.proofs.lemmas.Bool.{and_from as and_both}
use Rattle.mesh_base_values.specs.Picked.{same_text}
use Rattle.mesh_base_values.specs.declared.values.Column.{Column}
use Rattle.mesh_base_values.proofs.Equals.{text_itself as text_self}
use Rattle.mesh_base.specs.declared.expressions.Expr.{Expr, out-Expr}
use Rattle.mesh_base.specs.declared.queries.Query.{Query}
use Rattle.mesh_base.specs.declared.queries.Select.{Select}
use Rattle.mesh_base.specs.declared.rules.relations.Relation.{Relation}
use Rattle.mesh_base.specs.rules.Seen.{are_ctes_seen, are_selects_seen, are_there, conditions_see, has_column, is_query_seen, is_select_seen, items_see, keys_see, select_sees, sees, sees_some}
use Rattle.mesh_query_grammar.specs.declared.surface.expressions.OrExpr.{OrExpr, out-OrExpr}
use Rattle.mesh_query_grammar.specs.declared.surface.queries.Surface.{Surface}
use Rattle.mesh_query_grammar.specs.declared.surface.queries.SurfaceItem.{SurfaceItem}
use Rattle.mesh_query_grammar.specs.declared.surface.queries.SurfaceItem.TheVariants as written
use Rattle.mesh_query_grammar.specs.declared.surface.queries.SurfaceSelect.{SurfaceSelect}
use Rattle.mesh_query_tokens.specs.Gives.{◌>>=◌}
use Rattle.mesh_resolve_types.specs.declared.typed.Typed.{Typed}
use Rattle.mesh_resolve_types.specs.Faults.{most_columns, too_many_columns}
use Rattle.mesh_resolve_types.specs.Forms.{expr_of}
use Rattle.mesh_resolve_scope.specs.declared.sight.sight.Seen.{Seen}
use Rattle.mesh_resolve_scope.specs.declared.sight.sight.Sight.{Sight}
use Rattle.mesh_resolve_scope.specs.Expressions.{typed}
use Rattle.mesh_resolve_scope.specs.Lone.{lone_name}
use Rattle.mesh_resolve_scope.specs.sight.Sight.{answers_to, qualified}
use Rattle.mesh_resolve_selects.specs.declared.outputs.keys.Key.{Key}
use Rattle.mesh_resolve_selects.specs.declared.outputs.keys.Key.TheVariants.{Item}
use Rattle.mesh_resolve_selects.specs.declared.outputs.commons.Common.{Common}
use Rattle.mesh_resolve.specs.declared.known.Known.{Known}
use Rattle.mesh_resolve_selects.specs.declared.outputs.outputs.Output.{Output}
use Rattle.mesh_resolve_selects.specs.declared.selects.parts.Walked.{Walked}
use Rattle.mesh_resolve_selects.specs.outputs.Keys.{by_number, is_input, item_at, item_meant, item_or_missing, key, key_by, key_expr, key_exprs, keys, number_of, one_key, output_named}
use Rattle.mesh_resolve_selects.specs.outputs.Outputs.{all_of_one, expanded, item, items, output, resolved_item, starred, within_limit}
use Rattle.mesh_resolve.specs.Queries.{resolved}
use Rattle.mesh_resolve_selects.specs.outputs.Commons.{selects_of}
use Rattle.mesh_resolve.specs.Relations.{drawn_from}
use Rattle.mesh_resolve_selects.specs.selects.Standing.{is_grouped, stands}
use Rattle.mesh_resolve.specs.Selects.{from_item, resolved_as, right_keys, select, some_condition, walked}
use Rattle.mesh_law_reading.specs.Sight.{known_relations}
use Rattle.mesh_law_reading.proofs.Froms.{IsDrawn, condition_seen, conditions_seen, from_drawn, tables}
use Rattle.mesh_law_reading.proofs.Good.{AllByRecursion-push, Good, along_good, any, given, none_good, provided_good, some_good, then_good}
use Rattle.mesh_law_reading.proofs.Queries.{CtesKeep, QueryKeeps, queries_keep}
use Rattle.mesh_law_reading.proofs.Sees.{Standing, Stands, each_append, each_flat, in_columns, sees_columns, there, typed_seen}

each_at : {X : Type 0} (P : X → Type 0) (xs : List X) (n : ℕ) (x : X) → AllByRecursion P xs → slice_get xs n ≡ Some x → P x
each_at P [] n x all e = absurd (cc)
each_at P (y ∷ ys) zero x all e = subst P (cc) all.0
each_at P (y ∷ ys) (suc n) x all e = each_at P ys n x all.1 e

pub all_pass : {X : Type 0} (p : X → Bool) (xs : List X) → AllByRecursion (λ x. p x ≡ true) xs → list_all p xs ≡ true
all_pass p [] all = refl
all_pass p (x ∷ xs) all = and_both (p x) (list_all p xs) all.0 (all_pass p xs all.1)

module _ (all : List (List Column)) where
  abbrev P : Expr → Type 0
  P e = sees all e ≡ true

  abbrev OutputSees : Output → Type 0
  OutputSees o = P o.typed.expr

  abbrev KeySees : Key → Type 0
  KeySees k = AllByRecursion P (key_expr k)

  abbrev SomeTyped : Option Typed → Type 0
  SomeTyped o = ForSome o (λ (t : Typed). P t.expr)

  -- the items
  columns_starred : (at : ℕ) (d : Seen) → Stands all d → (cs : List Column) → AllByRecursion (λ (c : Column). (name : List ℕ) → same_text c.name name ≡ true → has_column d.columns name ≡ true) cs → AllByRecursion OutputSees (map (starred at d) cs)
  columns_starred at d is [] ps = tt
  columns_starred at d is (c ∷ cs) ps = (sees_columns all d.place c.name (there all d c.name is (ps.0 c.name (text_self c.name))), columns_starred at d is cs ps.1)

  of_one_seen : (at : ℕ) (name : Option (List ℕ)) (d : Seen) → Stands all d → AllByRecursion OutputSees (all_of_one at name d)
  of_one_seen at name d is = by_answer (answers_to name d)
    where
      by_answer : (b : Bool) → AllByRecursion OutputSees (cond b (map (starred at d) d.columns) [])
      by_answer true = columns_starred at d is d.columns (in_columns d.columns)
      by_answer false = tt

  expanded_seen : (at : ℕ) (name : Option (List ℕ)) (from : List Seen) → Standing all from → AllByRecursion OutputSees (expanded at name from)
  expanded_seen at name from standing = each_flat (Stands all) OutputSees (all_of_one at name) (λ d is. of_one_seen at name d is) from standing

  within : (os : List Output) → AllByRecursion OutputSees os → Good (AllByRecursion OutputSees) (within_limit os)
  within os ps = provided_good (AllByRecursion OutputSees) (nat_le (length os) most_columns) os too_many_columns (λ few. ps)

  -- the item that a single name means
  named_seen : (os : List Output) (name : List ℕ) → AllByRecursion OutputSees os → ForSome (output_named os name) P
  named_seen [] name ps e is = absurd (cc)
  named_seen (o ∷ os) name ps e is = by_name (same_text o.name name) (named_seen os name ps.1 e) is
    where
      by_name : (b : Bool) → (output_named os name ≡ Some e → P e) → cond b (Some o.typed.expr) (output_named os name) ≡ Some e → P e
      by_name true rest is = subst P (cc) ps.0
      by_name false rest is = rest is

  module _ (sight : Sight) (standing : Standing all sight.from) where
    item_seen : (done : List Output) (i : SurfaceItem) → AllByRecursion OutputSees done → Good (AllByRecursion OutputSees) (item sight done i)
    item_seen done (written.All at) ps = within (done ++ expanded at None sight.from) (each_append OutputSees done (expanded at None sight.from) ps (expanded_seen at None sight.from standing))
    item_seen done (written.AllOf at name) ps =
        then_good (λ u. Unit {0}) (AllByRecursion OutputSees) (qualified at (Some name) sight.from) (λ u. within_limit (done ++ expanded at (Some name) sight.from)) (λ u e. tt)
        (λ u known. within (done ++ expanded at (Some name) sight.from) (each_append OutputSees done (expanded at (Some name) sight.from) ps (expanded_seen at (Some name) sight.from standing)))
    item_seen done (written.Value at value alias) ps =
        then_good (λ (t : Typed). P t.expr) (AllByRecursion OutputSees) (typed sight value) (λ t. within_limit (done ++ output at (length done) alias t ∷ [])) (typed_seen all sight standing value)
        (λ t p. within (done ++ output at (length done) alias t ∷ []) (AllByRecursion-push OutputSees done (output at (length done) alias t) p ps))

    items_seen : (is : List SurfaceItem) → Good (AllByRecursion OutputSees) (items sight is)
    unfolding items
    items_seen is = along_good (AllByRecursion OutputSees) (λ i. Unit {0}) (item sight) (λ done i ps u. item_seen done i ps) [] tt is (any is)

    -- the keys
    module _ (os : List Output) (seen : AllByRecursion OutputSees os) where
      meant_seen : (name : Option (List ℕ)) → ForSome (item_meant sight os name) P
      meant_seen None e is = absurd (cc)
      meant_seen (Some name) e is = by_input (is_input name sight.from) is
        where
          by_input : (b : Bool) → cond b None (output_named os name) ≡ Some e → P e
          by_input true is = absurd (cc)
          by_input false is = named_seen os name seen e is

      or_missing : (at : ℕ) (o : Option Output) → ForSome o OutputSees → KeySees (item_or_missing at o)
      or_missing at None p = tt
      or_missing at (Some o) p = (p o refl, tt)

      at_number : (at : ℕ) (n : ℤ) → KeySees (item_at at os n)
      at_number at (pos zero) = tt
      at_number at (pos (suc n)) = or_missing at (slice_get os n) (λ o e. each_at OutputSees os n o seen e)
      at_number at (negsuc n) = tt

      numbered : (at : ℕ) (t : Typed) (n : Option ℤ) → P t.expr → KeySees (by_number at os t n)
      numbered at t None p = (p, tt)
      numbered at t (Some n) p = at_number at n

      key_of : (e : OrExpr) (o : Option Expr) → ForSome o P → Good KeySees (key_by sight os e o)
      key_of e None p =
          then_good (λ (t : Typed). P t.expr) KeySees (typed sight e) (λ t. Ok (by_number (out-OrExpr e).at os t (number_of (out-Expr t.expr)))) (typed_seen all sight standing e)
          (λ t q. given KeySees (by_number (out-OrExpr e).at os t (number_of (out-Expr t.expr))) (numbered (out-OrExpr e).at t (number_of (out-Expr t.expr)) q))
      key_of e (Some x) p = given KeySees (Item (out-OrExpr e).at x) (p x refl, tt)

      key_seen : (e : OrExpr) → Good KeySees (key sight os e)
      unfolding key
      key_seen e = key_of e (item_meant sight os (lone_name e)) (meant_seen (lone_name e))

      keys_seen : (es : List OrExpr) → Good (AllByRecursion KeySees) (keys sight os es)
      unfolding keys
      keys_seen es =
          along_good (AllByRecursion KeySees) (λ e. Unit {0}) (one_key sight os)
          (λ done e ps u. then_good KeySees (AllByRecursion KeySees) (key sight os e) (λ k. Ok (done ++ k ∷ [])) (key_seen e) (λ k p. given (AllByRecursion KeySees) (done ++ k ∷ []) (AllByRecursion-push KeySees done k p ps)))
          [] tt es (any es)

  items_pass : (os : List Output) → AllByRecursion OutputSees os → items_see all (map resolved_item os) ≡ true
  items_pass [] ps = refl
  items_pass (o ∷ os) ps = and_both (sees all o.typed.expr) (items_see all (map resolved_item os)) ps.0 (items_pass os ps.1)

  keys_pass : (ks : List Key) → AllByRecursion KeySees ks → keys_see all (key_exprs ks) ≡ true
  keys_pass ks ps = all_pass (sees all) (key_exprs ks) (each_flat KeySees P key_expr (λ k p. p) ks ps)

  some_pass : (o : Option Typed) → SomeTyped o → sees_some all (option_map expr_of o) ≡ true
  some_pass None p = refl
  some_pass (Some t) p = p t refl

module _ (known : Known) where
  abbrev rels : List Relation
  rels = known_relations known

  some_seen : (all : List (List Column)) (ctes : List Common) (sight : Sight) → Standing all sight.from → (e : Option OrExpr) → Good (SomeTyped all) (some_condition sight e)
  some_seen all ctes sight standing None = none_good (λ (t : Typed). P all t.expr)
  some_seen all ctes sight standing (Some e) = some_good (λ (t : Typed). P all t.expr) _ (condition_seen known ctes all sight standing e)

  record WalkSees (ctes : List Common) (w : Walked) : Type 0 where
    is_there : are_there rels (map selects_of ctes) (map from_item w.from) ≡ true
    conditions : conditions_see (tables known ctes w.from) (map from_item w.from) ≡ true
    filter : SomeTyped (tables known ctes w.from) w.filter
    outputs : AllByRecursion (OutputSees (tables known ctes w.from)) w.outputs
    keys : AllByRecursion (KeySees (tables known ctes w.from)) w.keys
    having : SomeTyped (tables known ctes w.from) w.having

  walk_sees : (ctes : List Common) (s : SurfaceSelect) → Good (WalkSees ctes) (walked known ctes s)
  unfolding walked
  walk_sees ctes s =
      then_good (IsDrawn known ctes) (WalkSees ctes) (drawn_from known ctes s.from) _ (from_drawn known ctes s.from)
      (λ from is. let all : List (List Column) = tables known ctes from.drawn in
      then_good (SomeTyped all) (WalkSees ctes) (some_condition from.sight s.filter) _ (some_seen all ctes from.sight is.standing s.filter)
      (λ filter f. then_good (AllByRecursion (OutputSees all)) (WalkSees ctes) (items from.sight s.items) _ (items_seen all from.sight is.standing s.items)
      (λ outputs o. then_good (AllByRecursion (KeySees all)) (WalkSees ctes) (keys from.sight outputs s.keys) _ (keys_seen all from.sight is.standing outputs o s.keys)
      (λ ks k. then_good (SomeTyped all) (WalkSees ctes) (some_condition from.sight s.having) (λ having. Ok (record { from = from.drawn; filter = filter; outputs = outputs; keys = ks; having = having })) (some_seen all ctes from.sight is.standing s.having)
      (λ having h. given (WalkSees ctes) (record { from = from.drawn; filter = filter; outputs = outputs; keys = ks; having = having })
      (record { is_there = is.is_there; conditions = conditions_seen known ctes from is; filter = f; outputs = o; keys = k; having = h }))))))

  keys_are : (w : Walked) → Good (λ keys. keys ≡ key_exprs w.keys) (right_keys w)
  keys_are w = then_good (λ right. Unit {0}) (λ keys. keys ≡ key_exprs w.keys) (stands (is_grouped w) (key_exprs w.keys) w) (λ right. Ok (key_exprs w.keys)) (λ x e. tt) (λ right u. given (λ keys. keys ≡ key_exprs w.keys) (key_exprs w.keys) refl)

  abbrev IsSeen : List (List Select) → Select → Type 0
  IsSeen ctes s = is_select_seen rels ctes s ≡ true

  all_seen : (ctes : List Common) (distinct grouped : Bool) (w : Walked) (keys : List Expr) → WalkSees ctes w → keys ≡ key_exprs w.keys → IsSeen (map selects_of ctes) (resolved_as distinct grouped keys w)
  unfolding is_select_seen select_sees
  all_seen ctes distinct grouped w keys p e =
      let all : List (List Column) = tables known ctes w.from in
      and_both _ _ p.is_there (and_both _ _ (items_pass all w.outputs p.outputs) (and_both _ _ p.conditions (and_both _ _ (some_pass all w.filter p.filter) (and_both _ _ (ap (keys_see all) e ∙ keys_pass all w.keys p.keys) (some_pass all w.having p.having)))))

  select_seen : (ctes : List Common) (s : SurfaceSelect) → Good (IsSeen (map selects_of ctes)) (select known ctes s)
  unfolding select
  select_seen ctes s =
      then_good (WalkSees ctes) (IsSeen (map selects_of ctes)) (walked known ctes s) (λ w. right_keys w >>= λ keys. Ok (resolved_as s.distinct (is_grouped w) keys w)) (walk_sees ctes s)
      (λ w p. then_good (λ keys. keys ≡ key_exprs w.keys) (IsSeen (map selects_of ctes)) (right_keys w) (λ keys. Ok (resolved_as s.distinct (is_grouped w) keys w)) (keys_are w)
      (λ keys e. given (IsSeen (map selects_of ctes)) (resolved_as s.distinct (is_grouped w) keys w) (all_seen ctes s.distinct (is_grouped w) w keys p e)))

  ctes_seen : (before cs : List (List Select)) → CtesKeep IsSeen before cs → are_ctes_seen rels before cs ≡ true
  ctes_seen before [] p = refl
  ctes_seen before (c ∷ cs) p = and_both (are_selects_seen rels before c) (are_ctes_seen rels (before ++ c ∷ []) cs) (all_pass (is_select_seen rels before) c p.0) (ctes_seen (before ++ c ∷ []) cs p.1)

  query_seen : (query : Query) → QueryKeeps IsSeen query → is_query_seen rels query ≡ true
  query_seen query p = and_both (are_ctes_seen rels [] query.ctes) (are_selects_seen rels query.ctes query.selects) (ctes_seen [] query.ctes p.0) (all_pass (is_select_seen rels query.ctes) query.selects p.1)

pub resolved_seen : (known : Known) (surface : Surface) (query : Query) → resolved known surface ≡ Ok query → is_query_seen (known_relations known) query ≡ true
resolved_seen known surface query e = query_seen known query (queries_keep (IsSeen known) known (select_seen known) surface query e)
