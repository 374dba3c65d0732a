-- What the grammar says of what a rule reads. Of what is left of a rule it says what the whole is, behind any
-- beginning.
use Rattle.std.proofs.Common.{◌≡◌, ℕ, ℤ, ◌+◌, List, ◌∷◌, codes, Bool, true, false, ◌⊎◌}
use Rattle.mesh_query_tokens.specs.declared.tokens.Token.{Token}
use Rattle.mesh_query_tokens.specs.declared.tokens.TokenKind.TheVariants.{Ident, Text}
use Rattle.mesh_query_grammar.specs.declared.surface.queries.SurfaceItem.{SurfaceItem}
use Rattle.mesh_time_days.specs.Moments.{IsDayText}
use Rattle.mesh_query_grammar.specs.Words.{is_reserved}
use Rattle.mesh_query_grammar.specs.Signs.{IsWord, IsFlag, IsAlias, IsQualified, IsRelation, IsOptionalSign}
use Rattle.mesh_query_grammar.specs.Grammar as gram
use Rattle.mesh_query_grammar.specs.Grammar.{Phrase, Spells, IsRelationOn}
use Rattle.mesh_query_grammar.specs.Rules.{Rule, Tree, expr, more_ors, conjunction, more_ands, negation, pred, tested, ranged, cat, more_cats, sum, more_sums, product, more_products, signed, post, more_casts, value, named, group, case, cast, operand, arms, more_arms, arm, otherwise, arguments, exprs, more_exprs, item, items, more_items, alias, qualified, relation, relations, more_joins, join, joined, source, condition, keys, select, selected, union, more_selects, cte, cte_list, more_ctes, ctes, query}
use Rattle.mesh_query_grammar.specs.Plans.{Plan, done, stuck, accept, peek, note, read, nest, day, star, plan}
use Rattle.mesh_query_grammar.specs.Machine.{are_star}
use Rattle.mesh_query_grammar.proofs.Runs.{Front, Notes, Says, says_done, says_accept, says_reject, says_see, says_miss, says_note, says_read, says_nest, says_day, says_star, says_starless}

-- before any rest
abbrev pub Framed : (List Token → List Token → Type 0) → Front → Type 0
Framed R u = (x : List Token) → R (u x) x

-- it begins with a token
abbrev pub Begins : Front → Type 0
Begins u = (k : Token) × (v : Front) × (u ≡ (λ x. k ∷ v x))

-- it begins with a token of that place
abbrev pub Starts : ℕ → Front → Type 0
Starts at u = (k : Token) × (v : Front) × (u ≡ (λ x. k ∷ v x)) × (at ≡ k.start)

abbrev pub Solid : (List Token → List Token → Type 0) → Front → Type 0
Solid R u = Begins u × Framed R u

-- items, and a comma behind the last one or none
abbrev pub Listed : ℕ → List SurfaceItem → List Token → List Token → Type 0
Listed n xs s e = (m : List Token) × Spells n (gram.items xs) s m × IsOptionalSign (codes ",") m e

-- SELECT and DISTINCT, or SELECT alone
abbrev pub IsOpened : Bool → List Token → List Token → Type 0
IsOpened d s e = (m : List Token) × IsWord (codes "select") s m × IsFlag (codes "distinct") d m e

-- what goes on with what was begun
abbrev pub GoesOn : (List Token → List Token → Type 0) → (List Token → List Token → Type 0) → Front → Type 0
GoesOn R Q u = (w : Front) → Framed R w → Framed Q (λ x. w (u x))

abbrev pub GoesOnFrom : ℕ → (List Token → List Token → Type 0) → (List Token → List Token → Type 0) → Front → Type 0
GoesOnFrom at R Q u = (w : Front) → Starts at w → Framed R w → Framed Q (λ x. w (u x))

abbrev pub Means : ℕ → (r : Rule) → Tree r → Front → Type 0
Means n expr t u = Solid (Spells n (gram.expr t)) u
Means n (more_ors at xs) t u = GoesOnFrom at (Spells n (gram.or_parts xs)) (Spells n (gram.expr t)) u
Means n conjunction t u = Solid (Spells n (gram.conjunction t)) u
Means n (more_ands at xs) t u = GoesOnFrom at (Spells n (gram.and_parts xs)) (Spells n (gram.conjunction t)) u
Means n negation t u = Solid (Spells n (gram.negation t)) u
Means n pred t u = Solid (Spells n (gram.pred t)) u
Means n tested t u = Framed (Spells n (gram.tested t)) u
Means n (ranged g) t u = Framed (Spells n (gram.ranged g t)) u
Means n cat t u = Solid (Spells n (gram.cat t)) u
Means n (more_cats at xs) t u = GoesOnFrom at (Spells n (gram.cat_parts xs)) (Spells n (gram.cat t)) u
Means n sum t u = Solid (Spells n (gram.sum t)) u
Means n (more_sums at y xs) t u = GoesOnFrom at (Spells n (gram.sum_steps y xs)) (Spells n (gram.sum t)) u
Means n product t u = Solid (Spells n (gram.product t)) u
Means n (more_products at y xs) t u = GoesOnFrom at (Spells n (gram.product_steps y xs)) (Spells n (gram.product t)) u
Means n signed t u = Solid (Spells n (gram.signed t)) u
Means n post t u = Solid (Spells n (gram.post t)) u
Means n (more_casts at v ks) t u = GoesOnFrom at (Spells n (gram.casts v ks)) (Spells n (gram.post t)) u
Means n value t u = Solid (Spells n (gram.value t)) u
Means n (named at name) t u =
    (k : Token) → at ≡ k.start → k.kind ≡ Ident name → is_reserved name ≡ false → Framed (Spells n (gram.value t)) (λ x. k ∷ u x)
Means n group t u = Solid (Spells n (gram.value t)) u
Means n case t u = Solid (Spells n (gram.value t)) u
Means n cast t u = Solid (Spells n (gram.value t)) u
Means n operand t u = Framed (Spells n (gram.operand t)) u
Means n arms t u = Framed (Spells n (gram.arms t)) u
Means n (more_arms xs) t u = GoesOn (Spells n (gram.arms xs)) (Spells n (gram.arms t)) u
Means n arm t u = Framed (Spells n (gram.arm t)) u
Means n otherwise t u = Framed (Spells n (gram.otherwise t)) u
Means n (arguments f) t u = Framed (Spells n (gram.arguments f t)) u
Means n exprs t u = Solid (Spells n (gram.exprs t)) u
Means n (more_exprs xs) t u = GoesOn (Spells n (gram.exprs xs)) (Spells n (gram.exprs t)) u
Means n item t u = Framed (Spells n (gram.item t)) u
Means n items t u = Framed (Listed n t) u
Means n (more_items xs) t u = GoesOn (Spells n (gram.items xs)) (Listed n t) u
Means n alias t u = Framed (IsAlias t) u
Means n qualified t u = Solid (IsQualified t.0 t.1) u
Means n relation t u = Solid (IsRelation t) u
Means n relations t u = Framed (Spells n (gram.relations t)) u
Means n (more_joins at r xs) t u = GoesOnFrom at (Spells n (gram.joined r xs)) (Spells n (gram.relations t)) u
Means n join t u = Framed (Spells n (gram.join t)) u
Means n joined t u = Framed (IsRelationOn n t.0 t.1) u
Means n source t u = Framed (Spells n (gram.source t)) u
Means n (condition w) t u = Framed (Spells n (gram.condition w t)) u
Means n keys t u = Framed (Spells n (gram.keys t)) u
Means n select t u = Solid (Spells n (gram.select t)) u
Means n (selected at d) t u = GoesOnFrom at (IsOpened d) (Spells n (gram.select t)) u
Means n union t u = Solid (Spells n (gram.union t)) u
Means n (more_selects at xs) t u = GoesOnFrom at (Spells n (gram.selects xs)) (Spells n (gram.union t)) u
Means n cte t u = Solid (Spells n (gram.cte t)) u
Means n cte_list t u = Solid (Spells n (gram.cte_list t)) u
Means n (more_ctes xs) t u = GoesOn (Spells n (gram.cte_list xs)) (Spells n (gram.cte_list t)) u
Means n ctes t u = ((u ≡ (λ x. x)) ⊎ Begins u) × Framed (Spells n (gram.ctes t)) u
Means n query t u = Framed (Spells n (gram.query t)) u

-- a plan that reads only what means what it is to mean
abbrev pub Sound : {r : Rule} → ℕ → (Tree r → Front → Type 0) → Plan r → Type 0
Sound n P (done t) = P t (λ x. x)
Sound n P stuck = Unit {0}
Sound n P (accept test f q) = ((k : Token) → test k ≡ true → Sound n (λ t u. P t (λ x. k ∷ u x)) (f k)) × Sound n P q
Sound n P (peek test p q) = Sound n P p × Sound n P q
Sound n P (note f) = (at : ℕ) → Sound n (λ t u. Notes at u → P t u) (f at)
Sound n P (read o f) = (a : Tree o) (u : Front) → Means n o a u → Sound n (λ t v. P t (λ x. u (v x))) (f a)
Sound n P (nest o f) = (i : ℕ) → n ≡ i + 1 → (a : Tree o) (u : Front) → Means i o a u → Sound n (λ t v. P t (λ x. u (v x))) (f a)
Sound n P (day f) = (d : ℤ) (text : List ℕ) (k : Token) → k.kind ≡ Text text → IsDayText d text → Sound n (λ t u. P t (λ x. k ∷ u x)) (f d)
Sound n P (star f q) = ((k d m : Token) → are_star k d m ≡ true → Sound n (λ t u. P t (λ x. k ∷ d ∷ m ∷ u x)) (f k)) × Sound n P q

-- what is said is meant
pub meant : ((r : Rule) (n : ℕ) → Sound n (Means n r) (plan r)) → {n : ℕ} {r : Rule} {p : Plan r} {t : Tree r} {u : Front} →
    Says n r p t u → (P : Tree r → Front → Type 0) → Sound n P p → P t u
meant all says_done P h = h
meant all (says_accept k i d) P h = meant all d (λ t u. P t (λ x. k ∷ u x)) (h.0 k i)
meant all (says_reject d) P h = meant all d P h.1
meant all (says_see d) P h = meant all d P h.0
meant all (says_miss d) P h = meant all d P h.1
meant all (says_note {u = u} at i d) P h = meant all d (λ t u. Notes at u → P t u) (h at) i
meant all (says_read {n = n} {o = o} {a = a} {u = u} d g) P h =
    let m : Means n o a u = meant all d (Means n o) (all o n) in
    meant all g (λ t v. P t (λ x. u (v x))) (h a u m)
meant all (says_nest {i = i} {o = o} {a = a} {u = u} e d g) P h =
    let m : Means i o a u = meant all d (Means i o) (all o i) in
    meant all g (λ t v. P t (λ x. u (v x))) (h i e a u m)
meant all (says_day d text k i j g) P h = meant all g (λ t u. P t (λ x. k ∷ u x)) (h d text k i j)
meant all (says_star k d m i g) P h = meant all g (λ t u. P t (λ x. k ∷ d ∷ m ∷ u x)) (h.0 k d m i)
meant all (says_starless d) P h = meant all d P h.1
