-- What each plan reads means what its rule is to mean.
use Rattle.std.proofs.Common.{◌≡◌, ℕ, ◌+◌, List, [], ◌∷◌, codes, Bool, true, false, Option, Some, None, ◌⊎◌, inl, inr, refl, ap, sym, ◌∙◌, subst, arith}
use Rattle.std.specs.Str.{bytes_eq}
use Rattle.mesh_query_tokens.specs.declared.tokens.Token.{Token}
use Rattle.mesh_query_tokens.specs.declared.tokens.TokenKind.TheVariants.{Ident}
use Rattle.mesh_query_grammar.specs.declared.surface.signs.Function.{Function}
use Rattle.mesh_query_grammar.specs.declared.surface.signs.Function.TheVariants as the_function
use Rattle.mesh_query_grammar.specs.declared.surface.expressions.OrExpr.{roll-OrExpr}
use Rattle.mesh_query_grammar.specs.declared.surface.expressions.AndExpr.{roll-AndExpr}
use Rattle.mesh_query_grammar.specs.declared.surface.expressions.NotExpr.TheVariants as the_not
use Rattle.mesh_query_grammar.specs.declared.surface.expressions.Pred.{roll-Pred}
use Rattle.mesh_query_grammar.specs.declared.surface.expressions.CatExpr.{roll-CatExpr}
use Rattle.mesh_query_grammar.specs.declared.surface.expressions.AddExpr.{roll-AddExpr}
use Rattle.mesh_query_grammar.specs.declared.surface.expressions.MulExpr.{roll-MulExpr}
use Rattle.mesh_query_grammar.specs.declared.surface.expressions.Unary.TheVariants as the_unary
use Rattle.mesh_query_grammar.specs.declared.surface.expressions.Post.{roll-Post}
use Rattle.mesh_query_grammar.specs.declared.surface.expressions.Primary.TheVariants as the_primary
use Rattle.mesh_query_grammar.specs.declared.surface.expressions.Arm.{roll-Arm}
use Rattle.mesh_query_grammar.specs.declared.surface.expressions.Args.TheVariants as the_args
use Rattle.mesh_query_grammar.specs.declared.surface.queries.SurfaceItem.TheVariants as the_item
use Rattle.mesh_query_grammar.specs.declared.surface.queries.SurfaceJoin.TheVariants as the_join
use Rattle.mesh_query_grammar.specs.Words.{function_of}
use Rattle.mesh_query_grammar.specs.Signs.{place}
use Rattle.mesh_query_grammar.specs.Grammar as gram
use Rattle.mesh_query_grammar.specs.Grammar.{Phrase, Spells}
use Rattle.mesh_query_grammar.specs.Rules.{Rule, Tree, expr, more_ors, conjunction, more_ands, negation, pred, tested, ranged, cat, more_cats, sum, more_sums, product, more_products, signed, post, more_casts, value, named, group, case, cast, operand, arms, more_arms, arm, otherwise, arguments, exprs, more_exprs, item, items, more_items, alias, qualified, relation, relations, more_joins, join, joined, source, condition, keys, select, selected, union, more_selects, cte, cte_list, more_ctes, ctes, query}
use Rattle.mesh_query_grammar.specs.Plans.{plan, said, amount, type_named, add_said, mul_said, arguments_plan, call_plan, column_plan, named_plan}
use Rattle.mesh_query_grammar.proofs.Runs.{Front, Notes, Says, is_named, is_dot, is_times}
use Rattle.mesh_query_grammar.proofs.Heads.{same_bytes, name_kind, word_at, sign_at, name_at, text_at, macro_at, number_at, type_at, add_at, mul_at, cmp_at}
use Rattle.mesh_query_grammar.proofs.Means.{Begins, Starts, Means, Sound, meant}

begun : (at : ℕ) {u : Front} (v : Front) → Notes at (λ x. u (v x)) → Begins u → Starts at u
begun at v h b = (b.0, b.1, b.2, h b.0 (λ x. b.1 (v x)) (ap {B = Front} (λ (z : Front) x. z (v x)) b.2))

on : {u : Front} → Begins u → (v : Front) → Begins (λ x. u (v x))
on b v = (b.0, λ x. b.1 (v x), ap {B = Front} (λ (z : Front) x. z (v x)) b.2)

further : {at : ℕ} {u : Front} → Starts at u → (v : Front) → Starts at (λ x. u (v x))
further b v = (b.0, λ x. b.1 (v x), ap {B = Front} (λ (z : Front) x. z (v x)) b.2, b.3)

placed : {at : ℕ} {u : Front} → Starts at u → (x : List Token) → place (u x) ≡ at
placed s x = ap (λ (z : Front). place (z x)) s.2 ∙ sym s.3

either : {u v : Front} → (u ≡ (λ x. x)) ⊎ Begins u → Begins v → Begins (λ x. u (v x))
either {v = v} (inl e) b = (b.0, b.1, ap {B = Front} (λ (z : Front) x. z (v x)) e ∙ b.2)
either {v = v} (inr c) b = on c v

at_place : {n at : ℕ} {s e : List Token} (F : ℕ → Phrase) → place s ≡ at → Spells n (F (place s)) s e → Spells n (F at) s e
at_place {n = n} {s = s} {e = e} F h d = subst (λ (z : ℕ). Spells n (F z) s e) h d

as_deep : {n i j : ℕ} {p : Phrase} {s e : List Token} → n ≡ i + 1 → n ≡ j + 1 → Spells j p s e → Spells i p s e
as_deep {i = i} {j = j} {p = p} {s = s} {e = e} h g d = let same : j ≡ i = omega (arith, h, g) in subst (λ (z : ℕ). Spells z p s e) same d

call_sound : (n at : ℕ) (name : List ℕ) (o : Option Function) → function_of name ≡ o → Sound n (Means n (named at name)) (call_plan at name o)
call_sound n at name None e = tt
call_sound n at name (Some f) e = (
  λ k g i d a u A. (λ j l m b c r z. at_place (λ y. gram.value (the_primary.Call y f a)) (sym b) (gram.call d (name, (m, refl, c), e) (sign_at (codes "(") k g (u (j ∷ z))) (A (j ∷ z)) (sign_at (codes ")") j l z)), tt),
  tt,
)

column_sound : (n at : ℕ) (name : List ℕ) → Sound n (Means n (named at name)) (column_plan at name)
column_sound n at name = (
  call_sound n at name (function_of name) refl,
  (
    λ k g. (λ j i m b c d z. at_place (λ y. gram.value (the_primary.Column y (Some name) (said j))) (sym b) (gram.column {of = Some name} {name = said j} (k ∷ j ∷ z, j ∷ z, ((m, refl, c), d), sign_at (codes ".") k g (j ∷ z), name_at j i z)), tt),
    λ m b c d z. at_place (λ y. gram.value (the_primary.Column y None name)) (sym b) (gram.column {of = None} {name = name} ((m, refl, c), d)),
  ),
)

named_sound : (n at : ℕ) (name : List ℕ) (b : Bool) → bytes_eq name (codes "date") ≡ b → Sound n (Means n (named at name)) (named_plan at name b)
named_sound n at name true h = (
  λ d text k e i m a b c z. at_place (λ y. gram.value (the_primary.Date y d)) (sym a) (gram.date (m, refl, b ∙ ap Ident (same_bytes name (codes "date") h)) (text, (k, refl, e), i)),
  column_sound n at name,
)
named_sound n at name false h = column_sound n at name

arguments_sound : (n : ℕ) (f : Function) → Sound n (Means n (arguments f)) (arguments_plan f)
arguments_sound n the_function.Count = λ at. (
  λ k g h z. at_place (λ y. gram.arguments the_function.Count (the_args.Star y)) (sym (h k (λ x. x) refl)) (gram.star (sign_at (codes "*") k g z)),
  (
    λ k g x u X h z. at_place (λ y. gram.arguments the_function.Count (the_args.Distinct y x)) (sym (h k u refl)) (gram.different (word_at (codes "distinct") k g (u z)) (X.1 z)),
    λ x u X h z. at_place (λ y. gram.arguments the_function.Count (the_args.List y (x ∷ []))) (placed (begun at (λ z. z) h X.0) z) (gram.one_argument refl (X.1 z)),
  ),
)
arguments_sound n the_function.Nullif = λ at x u X. (
  λ k g y v Y h z. at_place (λ j. gram.arguments the_function.Nullif (the_args.List j (x ∷ y ∷ []))) (placed (begun at (λ z. k ∷ v z) h X.0) (k ∷ v z)) (gram.two_arguments (X.1 (k ∷ v z)) (sign_at (codes ",") k g (v z)) (Y.1 z)),
  tt,
)
arguments_sound n the_function.Coalesce = λ at xs u X h z. at_place (λ j. gram.arguments the_function.Coalesce (the_args.List j xs)) (placed (begun at (λ z. z) h X.0) z) (gram.more_arguments (X.1 z))
arguments_sound n f = λ at x u X h z. at_place (λ y. gram.arguments f (the_args.List y (x ∷ []))) (placed (begun at (λ z. z) h X.0) z) (gram.one_argument refl (X.1 z))

pub sound : (r : Rule) (n : ℕ) → Sound n (Means n r) (plan r)
sound expr n = λ at x u X t v M h. (on X.0 v, M u (begun at v h X.0) (λ z. gram.one_or (X.1 z)))
sound (more_ors at xs) n = (
  λ k g x u X t v M w s p. M (λ z. w (k ∷ u z)) (further s (λ z. k ∷ u z)) (λ z. gram.more_or (p (k ∷ u z)) (word_at (codes "or") k g (u z)) (X.1 z)),
  λ w s p z. at_place (λ j. gram.expr (roll-OrExpr (record { at = j; parts = xs }))) (placed s z) (gram.ors (p z)),
)
sound conjunction n = λ at x u X t v M h. (on X.0 v, M u (begun at v h X.0) (λ z. gram.one_and (X.1 z)))
sound (more_ands at xs) n = (
  λ k g x u X t v M w s p. M (λ z. w (k ∷ u z)) (further s (λ z. k ∷ u z)) (λ z. gram.more_and (p (k ∷ u z)) (word_at (codes "and") k g (u z)) (X.1 z)),
  λ w s p z. at_place (λ j. gram.conjunction (roll-AndExpr (record { at = j; parts = xs }))) (placed s z) (gram.ands (p z)),
)
sound negation n = λ at. (
  λ k g i e x u X h. ((k, u, refl), λ z. at_place (λ j. gram.negation (the_not.Not j x)) (sym (h k u refl)) (gram.negated e (word_at (codes "not") k g (u z)) (X.1 z))),
  λ p u X h. (X.0, λ z. at_place (λ j. gram.negation (the_not.Plain j p)) (placed (begun at (λ x. x) h X.0) z) (gram.plain (X.1 z))),
)
sound pred n = λ at l u L t v T h. (on L.0 v, λ z. at_place (λ j. gram.pred (roll-Pred (record { at = j; left = l; test = t }))) (placed (begun at v h L.0) (v z)) (gram.asked (L.1 (v z)) (T z)))
sound tested n = (
  λ k g. (
    λ j f. (λ i l z. gram.is_not_null (word_at (codes "is") k g (j ∷ i ∷ z)) (word_at (codes "not") j f (i ∷ z)) (word_at (codes "null") i l z), tt),
    (λ j f z. gram.is_null (word_at (codes "is") k g (j ∷ z)) (word_at (codes "null") j f z), tt),
  ),
  (
    λ k g t u X z. gram.without_range (word_at (codes "not") k g (u z)) (X z),
    (λ t u X z. gram.with_range (X z), (λ k g r u X z. gram.compared (cmp_at k g (u z)) (X.1 z), λ z. gram.nothing)),
  ),
)
sound (ranged g) n = (
  λ k h a u A. (λ j i b v B z. gram.between (word_at (codes "between") k h (u (j ∷ v z))) (A.1 (j ∷ v z)) (word_at (codes "and") j i (v z)) (B.1 z), tt),
  (
    λ k h. (λ j i o e xs u X. (λ l m z. gram.one_of e (word_at (codes "in") k h (j ∷ u (l ∷ z))) (sign_at (codes "(") j i (u (l ∷ z))) (X.1 (l ∷ z)) (sign_at (codes ")") l m z), tt), tt),
    tt,
  ),
)
sound cat n = λ at x u X t v M h. (on X.0 v, M u (begun at v h X.0) (λ z. gram.one_cat (X.1 z)))
sound (more_cats at xs) n = (
  λ k g x u X t v M w s p. M (λ z. w (k ∷ u z)) (further s (λ z. k ∷ u z)) (λ z. gram.more_cat (p (k ∷ u z)) (sign_at (codes "||") k g (u z)) (X.1 z)),
  λ w s p z. at_place (λ j. gram.cat (roll-CatExpr (record { at = j; parts = xs }))) (placed s z) (gram.cats (p z)),
)
sound sum n = λ at x u X t v M h. (on X.0 v, M u (begun at v h X.0) (λ z. gram.one_sum (X.1 z)))
sound (more_sums at y xs) n = (
  λ k g x u X t v M w s p. M (λ z. w (k ∷ u z)) (further s (λ z. k ∷ u z)) (λ z. gram.more_sum (add_said (said k)) (p (k ∷ u z)) (add_at k g (u z)) (X.1 z)),
  λ w s p z. at_place (λ j. gram.sum (roll-AddExpr (record { at = j; first = y; rest = xs }))) (placed s z) (gram.sums (p z)),
)
sound product n = λ at x u X t v M h. (on X.0 v, M u (begun at v h X.0) (λ z. gram.one_product (X.1 z)))
sound (more_products at y xs) n = (
  λ k g x u X t v M w s p. M (λ z. w (k ∷ u z)) (further s (λ z. k ∷ u z)) (λ z. gram.more_product (mul_said (said k)) (p (k ∷ u z)) (mul_at k g (u z)) (X.1 z)),
  λ w s p z. at_place (λ j. gram.product (roll-MulExpr (record { at = j; first = y; rest = xs }))) (placed s z) (gram.products (p z)),
)
sound signed n = λ at. (
  λ k g i e x u X h. ((k, u, refl), λ z. at_place (λ j. gram.signed (the_unary.Minus j x)) (sym (h k u refl)) (gram.minus e (sign_at (codes "-") k g (u z)) (X.1 z))),
  λ p u X h. (X.0, λ z. at_place (λ j. gram.signed (the_unary.Plain j p)) (placed (begun at (λ x. x) h X.0) z) (gram.unsigned (X.1 z))),
)
sound post n = λ at x u X t v M h. (on X.0 v, M u (begun at v h X.0) (λ z. gram.no_cast (X.1 z)))
sound (more_casts at v ks) n = (
  λ k g. (λ j i t u M w s p. M (λ z. w (k ∷ j ∷ z)) (further s (λ z. k ∷ j ∷ z)) (λ z. gram.more_cast (p (k ∷ j ∷ z)) (sign_at (codes "::") k g (j ∷ z)) (type_at j i z)), tt),
  λ w s p z. at_place (λ j. gram.post (roll-Post (record { at = j; value = v; casts = ks }))) (placed s z) (gram.posts (p z)),
)
sound value n = λ at. (
  λ t u X h. X,
  (
    λ t u X h. X,
    (
      λ t u X h. X,
      (
        λ k g t u M h. ((k, u, refl), M k (h k u refl) (name_kind k.kind g).0 (name_kind k.kind g).1),
        (
          λ k g h. ((k, λ x. x, refl), λ z. at_place (λ j. gram.value (the_primary.Number j (amount k))) (sym (h k (λ x. x) refl)) (gram.number (number_at k g z))),
          (
            λ k g h. ((k, λ x. x, refl), λ z. at_place (λ j. gram.value (the_primary.Text j (said k))) (sym (h k (λ x. x) refl)) (gram.text (text_at k g z))),
            (
              λ k g h. ((k, λ x. x, refl), λ z. at_place (λ j. gram.value (the_primary.Macro j (said k))) (sym (h k (λ x. x) refl)) (gram.macro (macro_at k g z))),
              (
                λ k g h. ((k, λ x. x, refl), λ z. at_place (λ j. gram.value (the_primary.Truth j true)) (sym (h k (λ x. x) refl)) (gram.truth (word_at (codes "true") k g z))),
                (
                  λ k g h. ((k, λ x. x, refl), λ z. at_place (λ j. gram.value (the_primary.Truth j false)) (sym (h k (λ x. x) refl)) (gram.falsehood (word_at (codes "false") k g z))),
                  (λ k g h. ((k, λ x. x, refl), λ z. at_place (λ j. gram.value (the_primary.Null j)) (sym (h k (λ x. x) refl)) (gram.null (word_at (codes "null") k g z))), tt),
                ),
              ),
            ),
          ),
        ),
      ),
    ),
  ),
)
sound (named at name) n = named_sound n at name (bytes_eq name (codes "date")) refl
sound group n = λ at. (
  λ k g i e x u X. (λ j l h. ((k, λ z. u (j ∷ z), refl), λ z. at_place (λ y. gram.value (the_primary.Group y x)) (sym (h k (λ z. u (j ∷ z)) refl)) (gram.group e (sign_at (codes "(") k g (u (j ∷ z))) (X.1 (j ∷ z)) (sign_at (codes ")") j l z))), tt),
  tt,
)
sound case n = λ at. (
  λ k g i e o u O i2 e2 xs v X i3 e3 y w Y. (
    λ j l h. (
      (k, λ z. u (v (w (j ∷ z))), refl),
      λ z. at_place (λ q. gram.value (the_primary.Case q o xs y)) (sym (h k (λ z. u (v (w (j ∷ z)))) refl))
          (gram.case e (word_at (codes "case") k g (u (v (w (j ∷ z))))) (O (v (w (j ∷ z)))) (as_deep e e2 (X (w (j ∷ z)))) (as_deep e e3 (Y (j ∷ z))) (word_at (codes "end") j l z)),
    ),
    tt,
  ),
  tt,
)
sound cast n = λ at. (
  λ k g. (
    λ j l i e x u X. (
      λ a b. (
        λ c d. (
          λ y f h. (
            (k, λ z. j ∷ u (a ∷ c ∷ y ∷ z), refl),
            λ z. at_place (λ q. gram.value (the_primary.Cast q x (type_named c))) (sym (h k (λ z. j ∷ u (a ∷ c ∷ y ∷ z)) refl))
                (gram.cast e (word_at (codes "cast") k g (j ∷ u (a ∷ c ∷ y ∷ z))) (sign_at (codes "(") j l (u (a ∷ c ∷ y ∷ z))) (X.1 (a ∷ c ∷ y ∷ z)) (word_at (codes "as") a b (c ∷ y ∷ z)) (type_at c d (y ∷ z)) (sign_at (codes ")") y f z)),
          ),
          tt,
        ),
        tt,
      ),
      tt,
    ),
    tt,
  ),
  tt,
)
sound operand n = (λ z. gram.no_operand, λ x u X z. gram.an_operand (X.1 z))
sound arms n = λ x u X t v M. M u (λ z. gram.one_arm (X z))
sound (more_arms xs) n = (λ x u X t v M w p. M (λ z. w (u z)) (λ z. gram.more_arm (p (u z)) (X z)), λ w p. p)
sound arm n = λ at. (
  λ k g t u T. (λ j l v w V h z. at_place (λ y. gram.arm (roll-Arm (record { at = y; test = t; value = v }))) (sym (h k (λ z. u (j ∷ w z)) refl)) (gram.when (word_at (codes "when") k g (u (j ∷ w z))) (T.1 (j ∷ w z)) (word_at (codes "then") j l (w z)) (V.1 z)), tt),
  tt,
)
sound otherwise n = (λ k g x u X z. gram.an_else (word_at (codes "else") k g (u z)) (X.1 z), λ z. gram.no_else)
sound (arguments f) n = arguments_sound n f
sound exprs n = λ x u X t v M. (on X.0 v, M u (λ z. gram.one_expr (X.1 z)))
sound (more_exprs xs) n = (λ k g x u X t v M w p. M (λ z. w (k ∷ u z)) (λ z. gram.more_expr (p (k ∷ u z)) (sign_at (codes ",") k g (u z)) (X.1 z)), λ w p. p)
sound item n = λ at. (
  λ k g h z. at_place (λ j. gram.item (the_item.All j)) (sym (h k (λ x. x) refl)) (gram.all (sign_at (codes "*") k g z)),
  (
    λ k d m i h z. at_place (λ j. gram.item (the_item.AllOf j (said k))) (sym (h k (λ x. d ∷ m ∷ x) refl))
        (gram.all_of (name_at k (is_named k d m i) (d ∷ m ∷ z)) (sign_at (codes ".") d (is_dot k d m i) (m ∷ z)) (sign_at (codes "*") m (is_times k d m i) z)),
    λ x u X a v A h z. at_place (λ j. gram.item (the_item.Value j x a)) (placed (begun at v h X.0) (v z)) (gram.one_value (X.1 (v z)) (A z)),
  ),
)
sound items n = λ x u X t v M. M u (λ z. gram.one_item (X z))
sound (more_items xs) n = (
  λ k g. (
    λ w p z. (k ∷ z, p (k ∷ z), inr (sign_at (codes ",") k g z)),
    (
      λ x u X t v M w p. M (λ z. w (k ∷ u z)) (λ z. gram.more_item (p (k ∷ u z)) (sign_at (codes ",") k g (u z)) (X z)),
      λ w p z. (k ∷ z, p (k ∷ z), inr (sign_at (codes ",") k g z)),
    ),
  ),
  λ w p z. (z, p z, inl refl),
)
sound alias n = (
  λ k g. (λ j i z. inr (j ∷ z, word_at (codes "as") k g (j ∷ z), name_at j i z), tt),
  (λ k g z. inl (name_at k g z), λ z. refl),
)
sound qualified n = (
  λ k g. (
    λ j i. (λ m l. ((k, λ x. j ∷ m ∷ x, refl), λ z. (j ∷ m ∷ z, m ∷ z, name_at k g (j ∷ m ∷ z), sign_at (codes ".") j i (m ∷ z), name_at m l z)), tt),
    ((k, λ x. x, refl), λ z. name_at k g z),
  ),
  tt,
)
sound relation n = λ at q u Q a v A h. (on Q.0 v, λ z. (sym (placed (begun at v h Q.0) (v z)), (v z, Q.1 (v z), A z)))
sound relations n = λ at r u R t v M h. M u (begun at v h R.0) (λ z. gram.one_relation (R.1 z))
sound (more_joins at r xs) n = (
  λ x u X t v M w s p. M (λ z. w (u z)) (further s u) (λ z. gram.more_relation (p (u z)) (X z)),
  λ w s p z. at_place (λ j. gram.relations (record { at = j; first = r; joins = xs })) (placed s z) (gram.related (p z)),
)
sound join n = λ at. (
  λ k g r u R h z. at_place (λ j. gram.join (the_join.Comma j r)) (sym (h k u refl)) (gram.comma (sign_at (codes ",") k g (u z)) (R.1 z)),
  (
    λ k g. (λ j i r u R h z. at_place (λ y. gram.join (the_join.Cross y r)) (sym (h k (λ z. j ∷ u z) refl)) (gram.cross (word_at (codes "cross") k g (j ∷ u z)) (word_at (codes "join") j i (u z)) (R.1 z)), tt),
    (
      λ k g. (
        λ j i. (
          λ l m p u X h z. at_place (λ y. gram.join (the_join.Left y p.0 p.1)) (sym (h k (λ z. j ∷ l ∷ u z) refl))
              (gram.left (word_at (codes "left") k g (j ∷ l ∷ u z)) (inr (word_at (codes "outer") j i (l ∷ u z))) (word_at (codes "join") l m (u z)) (X z).2 (X z).3 (X z).4),
          tt,
        ),
        (
          λ l m p u X h z. at_place (λ y. gram.join (the_join.Left y p.0 p.1)) (sym (h k (λ z. l ∷ u z) refl))
              (gram.left (word_at (codes "left") k g (l ∷ u z)) (inl refl) (word_at (codes "join") l m (u z)) (X z).2 (X z).3 (X z).4),
          tt,
        ),
      ),
      (
        λ k g. (
          λ l m p u X h z. at_place (λ y. gram.join (the_join.Inner y p.0 p.1)) (sym (h k (λ z. l ∷ u z) refl))
              (gram.inner (inr (word_at (codes "inner") k g (l ∷ u z))) (word_at (codes "join") l m (u z)) (X z).2 (X z).3 (X z).4),
          tt,
        ),
        (
          λ l m p u X h z. at_place (λ y. gram.join (the_join.Inner y p.0 p.1)) (sym (h l u refl))
              (gram.inner (inl refl) (word_at (codes "join") l m (u z)) (X z).2 (X z).3 (X z).4),
          tt,
        ),
      ),
    ),
  ),
)
sound joined n = λ r u R. (λ k g x v X z. (k ∷ v z, v z, R.1 (k ∷ v z), word_at (codes "on") k g (v z), X.1 z), tt)
sound source n = (λ k g f u F z. gram.a_source (word_at (codes "from") k g (u z)) (F z), λ z. gram.no_source)
sound (condition w) n = (λ k g x u X z. gram.a_condition (word_at w k g (u z)) (X.1 z), λ z. gram.no_condition)
sound keys n = (λ k g. (λ j i xs u X z. gram.some_keys (word_at (codes "group") k g (j ∷ u z)) (word_at (codes "by") j i (u z)) (X.1 z), tt), λ z. gram.no_keys)
sound select n = λ at. (
  λ k g. (
    λ j i t u M h. ((k, λ z. j ∷ u z, refl), M (λ x. k ∷ j ∷ x) (k, λ x. j ∷ x, refl, h k (λ z. j ∷ u z) refl) (λ z. (j ∷ z, word_at (codes "select") k g (j ∷ z), word_at (codes "distinct") j i z))),
    λ t u M h. ((k, u, refl), M (λ x. k ∷ x) (k, λ x. x, refl, h k u refl) (λ z. (z, word_at (codes "select") k g z, refl))),
  ),
  tt,
)
sound (selected at d) n = λ xs u X f v F w p W ks q K h r H y s o z.
    at_place (λ j. gram.select (record { at = j; distinct = d; items = xs; from = f; filter = w; keys = ks; having = h })) (placed s (u (v (p (q (r z))))))
    (gram.selected (o (u (v (p (q (r z)))))).1 (o (u (v (p (q (r z)))))).2 (X (v (p (q (r z))))).1 (X (v (p (q (r z))))).2 (F (p (q (r z)))) (W (q (r z))) (K (r z)) (H z))
sound union n = λ at x u X t v M h. (on X.0 v, M u (begun at v h X.0) (λ z. gram.one_select (X.1 z)))
sound (more_selects at xs) n = (
  λ k g. (
    λ j i x u X t v M w s p. M (λ z. w (k ∷ j ∷ u z)) (further s (λ z. k ∷ j ∷ u z)) (λ z. gram.more_select (p (k ∷ j ∷ u z)) (word_at (codes "union") k g (j ∷ u z)) (word_at (codes "all") j i (u z)) (X.1 z)),
    tt,
  ),
  λ w s p z. at_place (λ j. gram.union (record { at = j; selects = xs })) (placed s z) (gram.unions (p z)),
)
sound cte n = λ at. (
  λ k g. (
    λ j i. (
      λ l m o e x u X. (
        λ y f h. (
          (k, λ z. j ∷ l ∷ u (y ∷ z), refl),
          λ z. at_place (λ q. gram.cte (record { at = q; name = said k; body = x })) (sym (h k (λ z. j ∷ l ∷ u (y ∷ z)) refl))
              (gram.defined e (name_at k g (j ∷ l ∷ u (y ∷ z))) (word_at (codes "as") j i (l ∷ u (y ∷ z))) (sign_at (codes "(") l m (u (y ∷ z))) (X.1 (y ∷ z)) (sign_at (codes ")") y f z)),
        ),
        tt,
      ),
      tt,
    ),
    tt,
  ),
  tt,
)
sound cte_list n = λ x u X t v M. (on X.0 v, M u (λ z. gram.one_cte (X.1 z)))
sound (more_ctes xs) n = (λ k g x u X t v M w p. M (λ z. w (k ∷ u z)) (λ z. gram.more_cte (p (k ∷ u z)) (sign_at (codes ",") k g (u z)) (X.1 z)), λ w p. p)
sound ctes n = (λ k g xs u X. (inr (k, u, refl), λ z. gram.some_ctes (word_at (codes "with") k g (u z)) (X.1 z)), (inl refl, λ z. gram.no_ctes))
sound query n = λ at cs u C x v X. (
  λ k g h z. at_place (λ j. gram.query (record { at = j; ctes = cs; body = x })) (placed (begun at (λ y. k ∷ y) h (either C.0 X.0)) (k ∷ z))
      (gram.whole (C.1 (v (k ∷ z))) (X.1 (k ∷ z)) (inr (sign_at (codes ";") k g z))),
  λ h z. at_place (λ j. gram.query (record { at = j; ctes = cs; body = x })) (placed (begun at (λ y. y) h (either C.0 X.0)) z) (gram.whole (C.1 (v z)) (X.1 z) (inl refl)),
)

-- what a plan of a rule says is what the rule means
pub says_means : {n : ℕ} {r : Rule} {t : Tree r} {u : Front} → Says n r (plan r) t u → Means n r t u
says_means {n = n} {r = r} d = meant sound d (Means n r) (sound r n)
