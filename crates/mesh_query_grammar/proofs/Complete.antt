-- What the grammar spells is read, before a token that does not go on with it.
use Rattle.std.proofs.Common.{◌≡◌, ℕ, ◌+◌, ◌<◌, ◌≤◌, List, [], ◌∷◌, ◌++◌, codes, Bool, true, false, ◌||◌, Option, Some, None, ◌⊎◌, inl, inr, refl, ap, sym, ◌∙◌, subst, arith}
use Rattle.std.specs.Str.{bytes_eq}
use Rattle.mesh_query_tokens.specs.declared.tokens.Token.{Token}
use Rattle.mesh_query_tokens.specs.declared.tokens.TokenKind.{TokenKind}
use Rattle.mesh_query_tokens.specs.declared.tokens.TokenKind.TheVariants.{Ident, Sign}
use Rattle.mesh_query_grammar.specs.declared.surface.expressions.AddStep.{roll-AddStep}
use Rattle.mesh_query_grammar.specs.declared.surface.expressions.MulStep.{roll-MulStep}
use Rattle.mesh_query_grammar.specs.declared.surface.expressions.Primary.{Primary}
use Rattle.mesh_query_grammar.specs.declared.surface.queries.SurfaceItem.{SurfaceItem}
use Rattle.mesh_query_grammar.specs.declared.surface.queries.SurfaceSelect.{SurfaceSelect}
use Rattle.mesh_query_grammar.specs.declared.surface.queries.Surface.{Surface}
use Rattle.mesh_query_grammar.specs.declared.surface.signs.Function.{Function}
use Rattle.mesh_query_grammar.specs.declared.surface.signs.Function.TheVariants as the_function
use Rattle.mesh_query_grammar.specs.declared.surface.expressions.OrExpr.{OrExpr, roll-OrExpr}
use Rattle.mesh_query_grammar.specs.declared.surface.expressions.AndExpr.{roll-AndExpr}
use Rattle.mesh_query_grammar.specs.declared.surface.expressions.Test.TheVariants as the_test
use Rattle.mesh_query_grammar.specs.declared.surface.expressions.CatExpr.{roll-CatExpr}
use Rattle.mesh_query_grammar.specs.declared.surface.expressions.AddExpr.{roll-AddExpr}
use Rattle.mesh_query_grammar.specs.declared.surface.expressions.AddStep.{roll-AddStep}
use Rattle.mesh_query_grammar.specs.declared.surface.expressions.MulExpr.{roll-MulExpr}
use Rattle.mesh_query_grammar.specs.declared.surface.expressions.MulStep.{roll-MulStep}
use Rattle.mesh_query_grammar.specs.declared.surface.expressions.Post.{roll-Post}
use Rattle.mesh_query_grammar.specs.declared.surface.expressions.Primary.TheVariants as the_primary
use Rattle.mesh_query_grammar.specs.declared.surface.expressions.Args.TheVariants as the_args
use Rattle.mesh_query_grammar.specs.declared.surface.queries.SurfaceItem.TheVariants as the_item
use Rattle.mesh_query_grammar.specs.declared.surface.queries.SurfaceJoin.TheVariants as the_join
use Rattle.mesh_query_grammar.specs.declared.surface.queries.SurfaceRel.{SurfaceRel}
use Rattle.mesh_query_grammar.specs.Words.{is_reserved, function_of}
use Rattle.mesh_query_grammar.specs.Signs.{place, Next, IsWord, IsSign, IsName, IsAlias, IsOptional, IsFlag, IsOptionalSign, IsQualified, IsRelation}
use Rattle.mesh_query_grammar.specs.Grammar as gram
use Rattle.mesh_query_grammar.specs.Grammar.{Phrase, Spells, takes_one}
use Rattle.mesh_query_grammar.specs.Rules.{Rule, Tree, expr, more_ors, conjunction, more_ands, negation, pred, tested, ranged, cat, more_cats, sum, more_sums, product, more_products, signed, post, more_casts, value, named, operand, arms, more_arms, arm, otherwise, arguments, exprs, more_exprs, item, items, more_items, alias, qualified, relation, relations, more_joins, join, joined, source, condition, keys, select, selected, union, more_selects, cte, cte_list, more_ctes, ctes, query}
use Rattle.mesh_query_grammar.specs.Plans.{Plan, done, read, accept, said, bytes_of, negated, kind_is_word, kind_is_sign, kind_is_name, kind_is_text, kind_is_number, kind_is_macro, is_word, is_sign, is_name, is_text, begins_join, column_plan, named_plan, call_plan, literal_plan, on_plan, peek, nest, stuck, is_any, ends_items, star}
use Rattle.mesh_query_grammar.specs.Machine.{begins, begins_star, Runs, Reads, ends, rejects, sees, misses, notes, reads, nests, days, stars, starless}
use Rattle.mesh_query_grammar.proofs.Scale.{kind_scale, scale, kind_opens, opens, scale_next, opens_next, seen, no_word, no_sign, unopened_word, unopened_sign, unlike, name_scale, name_opens, no_name, no_text, add_next, mul_next, cmp_next, no_add, no_mul, no_cmp, no_range, no_join, ends_or_over, unended, is_there}
use Rattle.mesh_query_grammar.proofs.Takes.{takes_word, takes_sign, takes_name, takes_type, takes_number, takes_text, takes_macro, takes_cmp, takes_add, takes_mul, function_unreserved, starless_name, starless_dot, starless_times}

-- it begins like an expression, and with no star of a name
abbrev pub Led : ℕ → List Token → Type 0
Led b s = (0 < opens s) × (opens s < b) × (begins_star s ≡ false)

-- what is read from the second rule on is read from the first
abbrev pub Leads : ℕ → (r o : Rule) → (Tree o → Tree r) → List Token → List Token → Type 0
Leads n r o f s e = (t : Tree o) (x : List Token) → Reads n o t e x → Reads n r (f t) s x

abbrev pub kind_begins_range : TokenKind → Bool
kind_begins_range k = kind_is_word (codes "between") k || kind_is_word (codes "in") k

abbrev pub kind_begins_join : TokenKind → Bool
kind_begins_join k = kind_is_sign (codes ",") k || kind_is_word (codes "cross") k || kind_is_word (codes "inner") k || kind_is_word (codes "join") k || kind_is_word (codes "left") k

abbrev pub Ahead : List ℕ → List Token → Type 0
Ahead w s = (m : List Token) × IsWord w s m

-- what stops a phrase
abbrev pub Stops : Phrase → List Token → Type 0
Stops (gram.expr x) e = scale e < 17
Stops (gram.or_parts xs) e = scale e < 18
Stops (gram.conjunction x) e = scale e < 18
Stops (gram.and_parts xs) e = scale e < 19
Stops (gram.negation x) e = scale e < 19
Stops (gram.pred x) e = scale e < 19
Stops (gram.tested x) e = scale e < 19
Stops (gram.ranged g x) e = scale e < 19
Stops (gram.cat x) e = scale e < 20
Stops (gram.cat_parts xs) e = scale e < 21
Stops (gram.sum x) e = scale e < 21
Stops (gram.sum_steps x xs) e = scale e < 22
Stops (gram.product x) e = scale e < 22
Stops (gram.product_steps x xs) e = scale e < 23
Stops (gram.signed x) e = scale e < 23
Stops (gram.post x) e = scale e < 23
Stops (gram.casts v ks) e = scale e < 24
Stops (gram.value x) e = scale e < 24
Stops (gram.operand x) e = Ahead (codes "when") e
Stops (gram.arms xs) e = scale e < 17
Stops (gram.arm x) e = scale e < 17
Stops (gram.otherwise x) e = scale e < 12
Stops (gram.arguments f x) e = scale e < 10
Stops (gram.exprs xs) e = scale e < 17
Stops (gram.item x) e = scale e < 15
Stops (gram.items xs) e = scale e < 15
Stops (gram.joined r xs) e = scale e < 11
Stops (gram.join x) e = scale e < 11
Stops (gram.relations x) e = scale e < 8
Stops (gram.source x) e = scale e < 7
Stops (gram.condition w x) e = (scale e < kind_scale (Ident w)) × (scale e < 17)
Stops (gram.keys xs) e = scale e < 5
Stops (gram.select x) e = scale e < 4
Stops (gram.selects xs) e = scale e < 4
Stops (gram.union x) e = scale e < 3
Stops (gram.cte x) e = Unit {0}
Stops (gram.cte_list xs) e = Unit {0}
Stops (gram.ctes xs) e = Ahead (codes "select") e
Stops (gram.query x) e = scale e < 1

-- how a phrase is read
abbrev pub IsRead : ℕ → Phrase → List Token → List Token → Type 0
IsRead n (gram.expr x) s e = Led 4 s × Reads n expr x s e
IsRead n (gram.or_parts xs) s e = Led 4 s × Leads n expr (more_ors (place s) xs) (λ t. t) s e
IsRead n (gram.conjunction x) s e = Led 4 s × Reads n conjunction x s e
IsRead n (gram.and_parts xs) s e = Led 4 s × Leads n conjunction (more_ands (place s) xs) (λ t. t) s e
IsRead n (gram.negation x) s e = Led 4 s × Reads n negation x s e
IsRead n (gram.pred x) s e = Led 3 s × Reads n pred x s e
IsRead n (gram.tested x) s e = (scale s < 20) × Reads n tested x s e
IsRead n (gram.ranged g x) s e = (scale s ≡ 19) × (begins (λ k. kind_begins_range k.kind) s ≡ true) × (begins (is_word (codes "is")) s ≡ false) × (begins (is_word (codes "not")) s ≡ false) × Reads n (ranged g) x s e
IsRead n (gram.cat x) s e = Led 3 s × Reads n cat x s e
IsRead n (gram.cat_parts xs) s e = Led 3 s × Leads n cat (more_cats (place s) xs) (λ t. t) s e
IsRead n (gram.sum x) s e = Led 3 s × Reads n sum x s e
IsRead n (gram.sum_steps y xs) s e = Led 3 s × Leads n sum (more_sums (place s) y xs) (λ t. t) s e
IsRead n (gram.product x) s e = Led 3 s × Reads n product x s e
IsRead n (gram.product_steps y xs) s e = Led 3 s × Leads n product (more_products (place s) y xs) (λ t. t) s e
IsRead n (gram.signed x) s e = Led 3 s × Reads n signed x s e
IsRead n (gram.post x) s e = Led 2 s × Reads n post x s e
IsRead n (gram.casts v ks) s e = Led 2 s × Leads n post (more_casts (place s) v ks) (λ t. t) s e
IsRead n (gram.value x) s e = Led 2 s × Reads n value x s e
IsRead n (gram.operand x) s e = Reads n operand x s e
IsRead n (gram.arms xs) s e = Ahead (codes "when") s × Leads n arms (more_arms xs) (λ t. t) s e
IsRead n (gram.arm x) s e = Ahead (codes "when") s × Reads n arm x s e
IsRead n (gram.otherwise x) s e = (scale s < 13) × Reads n otherwise x s e
IsRead n (gram.arguments f x) s e = Reads n (arguments f) x s e
IsRead n (gram.exprs xs) s e = Led 4 s × Leads n exprs (more_exprs xs) (λ t. t) s e
IsRead n (gram.item x) s e = (0 < opens s) × Reads n item x s e
IsRead n (gram.items xs) s e = (0 < opens s) × Leads n items (more_items xs) (λ t. t) s e
IsRead n (gram.joined r xs) s e = Leads n relations (more_joins (place s) r xs) (λ t. t) s e
IsRead n (gram.join x) s e = (begins begins_join s ≡ true) × (scale s < 11) × Reads n join x s e
IsRead n (gram.relations x) s e = Reads n relations x s e
IsRead n (gram.source x) s e = (scale s < 8) × Reads n source x s e
IsRead n (gram.condition w x) s e = (scale s < kind_scale (Ident w) + 1) × Reads n (condition w) x s e
IsRead n (gram.keys xs) s e = (scale s < 6) × Reads n keys xs s e
IsRead n (gram.select x) s e = Ahead (codes "select") s × Reads n select x s e
IsRead n (gram.selects xs) s e = Ahead (codes "select") s × Leads n union (more_selects (place s) xs) (λ t. t) s e
IsRead n (gram.union x) s e = Ahead (codes "select") s × Reads n union x s e
IsRead n (gram.cte x) s e = Reads n cte x s e
IsRead n (gram.cte_list xs) s e = Leads n cte_list (more_ctes xs) (λ t. t) s e
IsRead n (gram.ctes xs) s e = Reads n ctes xs s e
IsRead n (gram.query x) s e = Reads n query x s e

less : {a c : ℕ} (b : ℕ) → a ≡ b → b < c → a < c
less b h g = omega (arith, h, g)

-- what begins with a token that is no name
led_by : {b : ℕ} {c : TokenKind} {s m : List Token} → Next c s m → kind_is_name c ≡ false → 0 < kind_opens c → kind_opens c < b → Led b s
led_by {c = c} {s = s} h g i j = let o = opens_next h in (omega (arith, o, i), omega (arith, o, j), starless_name s (seen kind_is_name h ∙ g))

wider : {b c : ℕ} (s : List Token) → b ≤ c → Led b s → Led c s
wider s h l = (l.0, omega (arith, h, l.1), l.2)

unopened_when : {b : ℕ} (s : List Token) → Led b s → begins (is_word (codes "when")) s ≡ false
unfolding kind_opens is_reserved
unopened_when s l = unopened_word (codes "when") s (λ g. absurd (let i : opens s ≡ 0 = g in omega (arith, l.0, i)))

-- the start of a value that is no parenthesis, CASE or CAST
unopened : {n : ℕ} {c : TokenKind} {v : Primary} {s m e : List Token} → Next c s m → kind_is_sign (codes "(") c ≡ false → kind_is_word (codes "case") c ≡ false → kind_is_word (codes "cast") c ≡ false →
    Runs n value (accept is_name (λ k. read (named (place s) (said k)) done) (literal_plan (place s))) v s e → Reads n value v s e
unopened h a b c d = notes (misses (seen (kind_is_sign (codes "(")) h ∙ a) (misses (seen (kind_is_word (codes "case")) h ∙ b) (misses (seen (kind_is_word (codes "cast")) h ∙ c) d)))

-- the start of a literal
literal : {n : ℕ} {c : TokenKind} {v : Primary} {s m e : List Token} → Next c s m → kind_is_sign (codes "(") c ≡ false → kind_is_word (codes "case") c ≡ false → kind_is_word (codes "cast") c ≡ false → kind_is_name c ≡ false →
    Runs n value (literal_plan (place s)) v s e → Reads n value v s e
literal h a b c g d = unopened h a b c (rejects (seen kind_is_name h ∙ g) d)

-- a value that begins with a name
name_led : {n : ℕ} {v : Primary} {x : List ℕ} {s m e : List Token} → IsName x s m → Reads n (named (place s) x) v m e → Reads n value v s e
unfolding is_reserved
name_led {x = x} {s = s} h d = unopened h.0 refl (unlike x (codes "case") h.1 refl) (unlike x (codes "cast") h.1 refl) (takes_name (λ z. read (named (place s) z) done) h (reads d ends))

-- behind a name no text stands
undated : {n at : ℕ} {v : Primary} {x : List ℕ} {s e : List Token} (b : Bool) → begins is_text s ≡ false → Runs n (named at x) (column_plan at x) v s e → Runs n (named at x) (named_plan at x b) v s e
undated true h d = misses h d
undated false h d = d

name_lead : {x : List ℕ} {s m : List Token} → IsName x s m → begins_star s ≡ false → Led 2 s
name_lead h g = let o = name_opens h in (omega (arith, o), omega (arith, o), g)

starless_behind : {x : List ℕ} {s m : List Token} → IsName x s m → begins (is_sign (codes ".")) m ≡ false → begins_star s ≡ false
starless_behind {m = m} h g = ap begins_star h.0.1 ∙ starless_dot h.0.0 m g

column_lead : (of : Option (List ℕ)) (x : List ℕ) (s e : List Token) → IsQualified of x s e → scale e < 24 → Led 2 s
unfolding kind_scale is_reserved
column_lead None x s e h g = name_lead h (starless_behind h (no_sign (codes ".") 24 e refl g))
column_lead (Some y) x s e h g =
    name_lead h.2 (ap begins_star (h.2.0.1 ∙ ap (λ z. h.2.0.0 ∷ z) h.3.1) ∙ starless_times h.2.0.0 h.3.0 h.1 (seen (kind_is_sign (codes "*")) h.4.0))

column_read : {n : ℕ} {of : Option (List ℕ)} {x : List ℕ} {s e : List Token} → IsQualified of x s e → scale e < 24 → Reads n value (the_primary.Column (place s) of x) s e
unfolding kind_scale is_reserved
column_read {of = None} {x = x} {s = s} {e = e} h g =
    name_led h (undated (bytes_eq x (codes "date")) (no_text e g) (misses (no_sign (codes "(") 24 e refl g) (rejects (no_sign (codes ".") 24 e refl g) ends)))
column_read {of = Some y} {x = x} {s = s} {e = e} h g =
    name_led h.2 (undated (bytes_eq y (codes "date")) (seen kind_is_text h.3) (misses (seen (kind_is_sign (codes "(")) h.3) (takes_sign (codes ".") h.3 (takes_name (λ z. done (the_primary.Column (place s) (Some y) z)) h.4 ends))))

called : {n : ℕ} {f : Function} {at : ℕ} {x : List ℕ} {v : Primary} {s e : List Token} (o : Option Function) → o ≡ Some f → Runs n (named at x) (call_plan at x (Some f)) v s e → Runs n (named at x) (call_plan at x o) v s e
called {n = n} {at = at} {x = x} {v = v} {s = s} {e = e} o h d = subst (λ (z : Option Function). Runs n (named at x) (call_plan at x z) v s e) (sym h) d

alias_read : {n : ℕ} {a : Option (List ℕ)} {s e : List Token} → IsAlias a s e → scale e < 15 → (scale s < 17) × Reads n alias a s e
unfolding kind_scale is_reserved
alias_read {n = n} {a = None} {s = s} {e = e} h g =
    let i : scale s < 15 = subst (λ (z : List Token). scale z < 15) (sym h) g in
    (omega (arith, i), subst (λ (z : List Token). Reads n alias None s z) h (rejects (no_word (codes "as") 15 s refl i) (rejects (no_name s (omega (arith, i))) ends)))
alias_read {a = Some x} {s = s} (inl h) g =
    let i = name_scale h in
    (omega (arith, i), rejects (seen (kind_is_word (codes "as")) h.0 ∙ unlike x (codes "as") h.1 refl) (takes_name (λ z. done (Some z)) h ends))
alias_read {a = Some x} {s = s} (inr h) g =
    (less 15 (scale_next h.1) (omega arith), takes_word (codes "as") h.1 (takes_name (λ z. done (Some z)) h.2 ends))

qualified_read : {n : ℕ} {of : Option (List ℕ)} {x : List ℕ} {s e : List Token} → IsQualified of x s e → scale e < 24 → Reads n qualified (of, x) s e
unfolding kind_scale
qualified_read {of = None} {x = x} {e = e} h g =
    takes_name (λ y. accept (is_sign (codes ".")) (λ j. accept is_name (λ i. done (Some y, said i)) stuck) (done (None, y))) h (rejects (no_sign (codes ".") 24 e refl g) ends)
qualified_read {of = Some y} {x = x} h g =
    takes_name (λ z. accept (is_sign (codes ".")) (λ j. accept is_name (λ i. done (Some z, said i)) stuck) (done (None, z))) h.2 (takes_sign (codes ".") h.3 (takes_name (λ z. done (Some y, z)) h.4 ends))

relation_read : {n : ℕ} {r : SurfaceRel} {s e : List Token} → IsRelation r s e → scale e < 11 → Reads n relation r s e
relation_read {n = n} {r = r} {s = s} {e = e} h g =
    let A : (scale h.1.0 < 17) × Reads n alias r.alias h.1.0 e = alias_read h.1.2 (omega (arith, g)) in
    let Q : Reads n qualified (r.schema, r.name) s h.1.0 = qualified_read h.1.1 (omega (arith, A.0)) in
    let d : Reads n relation (record { at = place s; schema = r.schema; name = r.name; alias = r.alias }) s e = notes (reads Q (reads A.1 ends)) in
    subst (λ (z : ℕ). Reads n relation (record { at = z; schema = r.schema; name = r.name; alias = r.alias }) s e) (sym h.0) d

-- NOT, a minus sign and the like: what opens is no other
unopened_not : (s : List Token) → opens s < 3 → begins (is_word (codes "not")) s ≡ false
unfolding kind_opens is_reserved
unopened_not s h = unopened_word (codes "not") s (λ g. absurd (let i : opens s ≡ 3 = g in omega (arith, h, i)))

unopened_minus : (s : List Token) → opens s < 2 → begins (is_sign (codes "-")) s ≡ false
unfolding kind_opens
unopened_minus s h = unopened_sign (codes "-") s (λ g. absurd (let i : opens s ≡ 2 = g in omega (arith, h, i)))

unopened_times : (s : List Token) → opens s < 4 → begins (is_sign (codes "*")) s ≡ false
unfolding kind_opens
unopened_times s h = unopened_sign (codes "*") s (λ g. absurd (let i : opens s ≡ 4 = g in omega (arith, h, i)))

unopened_distinct : (s : List Token) → 0 < opens s → begins (is_word (codes "distinct")) s ≡ false
unfolding kind_opens is_reserved
unopened_distinct s h = unopened_word (codes "distinct") s (λ g. absurd (let i : opens s ≡ 0 = g in omega (arith, h, i)))

-- the scales of words and signs
word_scale : (w : List ℕ) (c : ℕ) → kind_scale (Ident w) ≡ c → {s m : List Token} → IsWord w s m → scale s ≡ c
word_scale w c h g = scale_next g ∙ h

sign_scale : (w : List ℕ) (c : ℕ) → kind_scale (Sign w) ≡ c → {s m : List Token} → IsSign w s m → scale s ≡ c
sign_scale w c h g = scale_next g ∙ h

optional_scale : {s e : List Token} (c : ℕ) → IsOptionalSign (codes ",") s e → scale e < c → 10 < c → scale s < c
unfolding kind_scale
optional_scale c (inl h) g i = subst (λ (z : List Token). scale z < c) (sym h) g
optional_scale c (inr h) g i = let j = sign_scale (codes ",") 10 refl h in omega (arith, i, j)

-- the comma behind the last item
items_end : {n : ℕ} {xs : List SurfaceItem} {s e : List Token} → IsOptionalSign (codes ",") s e → scale e < 8 → Reads n (more_items xs) xs s e
unfolding kind_scale
items_end {n = n} {xs = xs} {s = s} {e = e} (inl h) g =
    subst (λ (z : List Token). Reads n (more_items xs) xs s z) h (rejects (no_sign (codes ",") 10 s refl (subst (λ (z : List Token). scale z < 10) (sym h) (omega (arith, g)))) ends)
items_end {n = n} {xs = xs} {s = s} {e = e} (inr h) g = takes_sign (codes ",") h (items_over e (ends_or_over e g))
  where
    items_over : (e : List Token) → (begins ends_items e ≡ true) ⊎ (e ≡ []) → Runs n (more_items xs) (peek ends_items (done xs) (peek is_any (read item (λ x. read (more_items (xs ++ x ∷ [])) done)) (done xs))) xs e e
    items_over e (inl h) = sees h ends
    items_over e (inr h) = subst (λ (z : List Token). Runs n (more_items xs) (peek ends_items (done xs) (peek is_any (read item (λ x. read (more_items (xs ++ x ∷ [])) done)) (done xs))) xs z z) (sym h) (misses refl (misses refl ends))

-- INNER or OUTER may stand before JOIN
opened_select : {s : List Token} → Ahead (codes "select") s → (begins (is_sign (codes ",")) s ≡ false) × (begins (is_word (codes "with")) s ≡ false)
opened_select h = (seen (kind_is_sign (codes ",")) h.1, seen (kind_is_word (codes "with")) h.1)

one_argument_read : {n : ℕ} (f : Function) {x : OrExpr} (s e : List Token) → takes_one f ≡ true → Led 4 s → Reads n expr x s e → Reads n (arguments f) (the_args.List (place s) (x ∷ [])) s e
one_argument_read the_function.Count s e h l d = notes (rejects (unopened_times s l.1) (rejects (unopened_distinct s l.0) (reads d ends)))
one_argument_read the_function.Nullif s e h l d = absurd cc
one_argument_read the_function.Coalesce s e h l d = absurd cc
one_argument_read _ s e h l d = notes (reads d ends)

star_read : {n at : ℕ} {q : Plan item} {x : List ℕ} {s m i e : List Token} → IsName x s m → IsSign (codes ".") m i → IsSign (codes "*") i e → Runs n item (star (λ k. done (the_item.AllOf at (said k))) q) (the_item.AllOf at x) s e
star_read {n = n} {at = at} {q = q} {x = x} {s = s} {e = e} w v u =
    let whole : s ≡ w.0.0 ∷ v.0 ∷ u.0 ∷ e = w.0.1 ∙ ap (λ z. w.0.0 ∷ z) (v.1 ∙ ap (λ z. v.0 ∷ z) u.1) in
    let name : x ≡ said w.0.0 = sym (ap bytes_of w.0.2) in
    let a : is_name w.0.0 ≡ true = ap kind_is_name w.0.2 ∙ ap negated w.1 in
    let b : is_sign (codes ".") v.0 ≡ true = ap (kind_is_sign (codes ".")) v.2 in
    let c : is_sign (codes "*") u.0 ≡ true = ap (kind_is_sign (codes "*")) u.2 in
    subst (λ (z : List Token). Runs n item (star (λ k. done (the_item.AllOf at (said k))) q) (the_item.AllOf at x) z e) (sym whole)
    (stars (rw (a, b, c) refl) (subst (λ (z : List ℕ). Runs n item (done (the_item.AllOf at (said w.0.0))) (the_item.AllOf at z) e e) (sym name) ends))

inner_read : {n : ℕ} {r : SurfaceRel} {x : OrExpr} {s m i e : List Token} → IsOptional (codes "inner") s m → IsWord (codes "join") m i → Reads n joined (r, x) i e →
    (begins begins_join s ≡ true) × (scale s < 11) × Reads n join (the_join.Inner (place s) r x) s e
unfolding kind_scale is_reserved
inner_read {i = i} (inl h) v d =
    let w : IsWord (codes "join") _ i = subst (λ (z : List Token). IsWord (codes "join") z i) (sym h) v in
    let j = word_scale (codes "join") 9 refl w in (
      seen kind_begins_join w,
      omega (arith, j),
      notes (rejects (seen (kind_is_sign (codes ",")) w) (rejects (seen (kind_is_word (codes "cross")) w) (rejects (seen (kind_is_word (codes "left")) w)
          (rejects (seen (kind_is_word (codes "inner")) w) (takes_word (codes "join") w (reads d ends)))))),
    )
inner_read (inr w) v d =
    let j = word_scale (codes "inner") 9 refl w in (
      seen kind_begins_join w,
      omega (arith, j),
      notes (rejects (seen (kind_is_sign (codes ",")) w) (rejects (seen (kind_is_word (codes "cross")) w) (rejects (seen (kind_is_word (codes "left")) w)
          (takes_word (codes "inner") w (takes_word (codes "join") v (reads d ends)))))),
    )

outer_read : {n : ℕ} (at : ℕ) {r : SurfaceRel} {x : OrExpr} {s m i e : List Token} → IsOptional (codes "outer") s m → IsWord (codes "join") m i → Reads n joined (r, x) i e →
    Runs n join (accept (is_word (codes "outer")) (λ j. on_plan (the_join.Left at)) (on_plan (the_join.Left at))) (the_join.Left at r x) s e
outer_read at {i = i} (inl h) v d =
    let w : IsWord (codes "join") _ i = subst (λ (z : List Token). IsWord (codes "join") z i) (sym h) v in
    rejects (seen (kind_is_word (codes "outer")) w) (takes_word (codes "join") w (reads d ends))
outer_read at (inr w) v d = takes_word (codes "outer") w (takes_word (codes "join") v (reads d ends))

flag_read : {n : ℕ} (at : ℕ) (d : Bool) {t : SurfaceSelect} {a : List Token} (b : List Token) {e : List Token} → IsFlag (codes "distinct") d a b → 0 < opens b → Reads n (selected at d) t b e →
    Runs n select (accept (is_word (codes "distinct")) (λ j. read (selected at true) done) (read (selected at false) done)) t a e
flag_read at true b F o d = takes_word (codes "distinct") F (reads d ends)
flag_read {n = n} at false {t = t} b {e = e} F o d =
    subst (λ (z : List Token). Runs n select (accept (is_word (codes "distinct")) (λ j. read (selected at true) done) (read (selected at false) done)) t z e) (sym F) (rejects (unopened_distinct b o) (reads d ends))

semicolon_scale : {s e : List Token} → IsOptionalSign (codes ";") s e → scale e < 1 → scale s < 3
unfolding kind_scale
semicolon_scale (inl h) g = subst (λ (z : List Token). scale z < 3) (sym h) (omega (arith, g))
semicolon_scale (inr h) g = let i = sign_scale (codes ";") 1 refl h in omega (arith, i)

semicolon_read : {n : ℕ} {t : Surface} {s e : List Token} → IsOptionalSign (codes ";") s e → scale e < 1 → Runs n query (accept (is_sign (codes ";")) (λ k. done t) (done t)) t s e
unfolding kind_scale
semicolon_read {n = n} {t = t} {s = s} (inl h) g =
    subst (λ (z : List Token). Runs n query (accept (is_sign (codes ";")) (λ k. done t) (done t)) t s z) h (rejects (no_sign (codes ";") 1 s refl (subst (λ (z : List Token). scale z < 1) (sym h) g)) ends)
semicolon_read (inr h) g = takes_sign (codes ";") h ends

pub complete : {n : ℕ} {p : Phrase} {s e : List Token} → Spells n p s e → Stops p e → IsRead n p s e
unfolding kind_scale kind_opens is_reserved
complete (gram.ors {xs = xs} {s = s} {e = e} d) h =
    let D = complete d (omega (arith, h)) in
    (D.0, D.1 (roll-OrExpr (record { at = place s; parts = xs })) e (rejects (no_word (codes "or") 17 e refl h) ends))
complete (gram.one_or d) h = let D = complete d h in (D.0, λ t f g. notes (reads D.1 (reads g ends)))
complete (gram.more_or d w x) h =
    let D = complete d (less 17 (word_scale (codes "or") 17 refl w) (omega arith)) in
    let X = complete x h in
    (D.0, λ t f g. D.1 t f (takes_word (codes "or") w (reads X.1 (reads g ends))))
complete (gram.ands {xs = xs} {s = s} {e = e} d) h =
    let D = complete d (omega (arith, h)) in
    (D.0, D.1 (roll-AndExpr (record { at = place s; parts = xs })) e (rejects (no_word (codes "and") 18 e refl h) ends))
complete (gram.one_and d) h = let D = complete d h in (D.0, λ t f g. notes (reads D.1 (reads g ends)))
complete (gram.more_and d w x) h =
    let D = complete d (less 18 (word_scale (codes "and") 18 refl w) (omega arith)) in
    let X = complete x h in
    (D.0, λ t f g. D.1 t f (takes_word (codes "and") w (reads X.1 (reads g ends))))
complete (gram.negated e w d) h = let D = complete d h in (led_by w refl (omega arith) (omega arith), notes (takes_word (codes "not") w (nests e D.1 ends)))
complete (gram.plain {s = s} d) h = let D = complete d h in (wider s (omega arith) D.0, notes (rejects (unopened_not s D.0.1) (reads D.1 ends)))
complete (gram.asked d t) h =
    let T = complete t h in
    let D = complete d T.0 in
    (D.0, notes (reads D.1 (reads T.1 ends)))
complete (gram.nothing {s = s}) h =
    (omega (arith, h), rejects (no_word (codes "is") 19 s refl h) (rejects (no_word (codes "not") 19 s refl h) (misses (no_range s h) (rejects (no_cmp s h) ends))))
complete (gram.compared {c = c} w d) h =
    let D = complete d (omega (arith, h)) in
    let i = cmp_next c w in
    (omega (arith, i), rejects (seen (kind_is_word (codes "is")) w) (rejects (seen (kind_is_word (codes "not")) w) (misses (seen kind_begins_range w) (takes_cmp (λ z. read cat (λ y. done (the_test.Compare z y))) c w (reads D.1 ends)))))
complete (gram.is_null w v) h =
    let i = word_scale (codes "is") 19 refl w in
    (omega (arith, i), takes_word (codes "is") w (rejects (seen (kind_is_word (codes "not")) v) (takes_word (codes "null") v ends)))
complete (gram.is_not_null w v u) h =
    let i = word_scale (codes "is") 19 refl w in
    (omega (arith, i), takes_word (codes "is") w (takes_word (codes "not") v (takes_word (codes "null") u ends)))
complete (gram.with_range d) h =
    let D = complete d h in
    let i = D.0 in
    (omega (arith, i), rejects D.2 (rejects D.3 (sees D.1 (reads D.4 ends))))
complete (gram.without_range w d) h =
    let D = complete d h in
    let i = word_scale (codes "not") 19 refl w in
    (omega (arith, i), rejects (seen (kind_is_word (codes "is")) w) (takes_word (codes "not") w (reads D.4 ends)))
complete (gram.between {g = g} {a = a} w d v e) h =
    let j = word_scale (codes "and") 18 refl v in
    let D = complete d (omega (arith, j)) in
    let E = complete e (omega (arith, h)) in (
      word_scale (codes "between") 19 refl w,
      seen kind_begins_range w,
      seen (kind_is_word (codes "is")) w,
      seen (kind_is_word (codes "not")) w,
      takes_word (codes "between") w (reads D.1 (takes_word (codes "and") v (reads E.1 ends))),
    )
complete (gram.one_of {xs = xs} {j = j} e w v d u) h =
    let i = sign_scale (codes ")") 2 refl u in
    let D = complete d (omega (arith, i)) in (
      word_scale (codes "in") 19 refl w,
      seen kind_begins_range w,
      seen (kind_is_word (codes "is")) w,
      seen (kind_is_word (codes "not")) w,
      rejects (seen (kind_is_word (codes "between")) w)
          (takes_word (codes "in") w (takes_sign (codes "(") v (nests e (D.1 xs j (rejects (no_sign (codes ",") 10 j refl (omega (arith, i))) ends)) (takes_sign (codes ")") u ends)))),
    )
complete (gram.cats {xs = xs} {s = s} {e = e} d) h =
    let D = complete d (omega (arith, h)) in
    (D.0, D.1 (roll-CatExpr (record { at = place s; parts = xs })) e (rejects (no_sign (codes "||") 20 e refl h) ends))
complete (gram.one_cat d) h = let D = complete d h in (D.0, λ t f g. notes (reads D.1 (reads g ends)))
complete (gram.more_cat d w x) h =
    let D = complete d (less 20 (sign_scale (codes "||") 20 refl w) (omega arith)) in
    let X = complete x h in
    (D.0, λ t f g. D.1 t f (takes_sign (codes "||") w (reads X.1 (reads g ends))))
complete (gram.sums {x = x} {xs = xs} {s = s} {e = e} d) h =
    let D = complete d (omega (arith, h)) in
    (D.0, D.1 (roll-AddExpr (record { at = place s; first = x; rest = xs })) e (rejects (no_add e h) ends))
complete (gram.one_sum d) h = let D = complete d h in (D.0, λ t f g. notes (reads D.1 (reads g ends)))
complete (gram.more_sum {x = x} {xs = xs} o {s = s} d w y) h =
    let D = complete d (less 21 (add_next o w) (omega arith)) in
    let Y = complete y h in
    (D.0, λ t f g. D.1 t f (takes_add (λ a o. read product (λ y. read (more_sums (place s) x (xs ++ roll-AddStep (record { at = a; sign = o; part = y }) ∷ [])) done)) o w (reads Y.1 (reads g ends))))
complete (gram.products {x = x} {xs = xs} {s = s} {e = e} d) h =
    let D = complete d (omega (arith, h)) in
    (D.0, D.1 (roll-MulExpr (record { at = place s; first = x; rest = xs })) e (rejects (no_mul e h) ends))
complete (gram.one_product d) h = let D = complete d h in (D.0, λ t f g. notes (reads D.1 (reads g ends)))
complete (gram.more_product {x = x} {xs = xs} o {s = s} d w y) h =
    let D = complete d (less 22 (mul_next o w) (omega arith)) in
    let Y = complete y h in
    (D.0, λ t f g. D.1 t f (takes_mul (λ a o. read signed (λ y. read (more_products (place s) x (xs ++ roll-MulStep (record { at = a; sign = o; part = y }) ∷ [])) done)) o w (reads Y.1 (reads g ends))))
complete (gram.minus e w d) h = let D = complete d h in (led_by w refl (omega arith) (omega arith), notes (takes_sign (codes "-") w (nests e D.1 ends)))
complete (gram.unsigned {s = s} d) h = let D = complete d h in (wider s (omega arith) D.0, notes (rejects (unopened_minus s D.0.1) (reads D.1 ends)))
complete (gram.posts {v = v} {ks = ks} {s = s} {e = e} d) h =
    let D = complete d (omega (arith, h)) in
    (D.0, D.1 (roll-Post (record { at = place s; value = v; casts = ks })) e (rejects (no_sign (codes "::") 23 e refl h) ends))
complete (gram.no_cast d) h = let D = complete d h in (D.0, λ t f g. notes (reads D.1 (reads g ends)))
complete (gram.more_cast {v = v} {ks = ks} {s = s} d w k) h =
    let D = complete d (less 23 (sign_scale (codes "::") 23 refl w) (omega arith)) in
    (D.0, λ t f g. D.1 t f (takes_sign (codes "::") w (takes_type (λ z. read (more_casts (place s) v (ks ++ z ∷ [])) done) k (reads g ends))))
complete (gram.number {s = s} w) h = (led_by w refl (omega arith) (omega arith), literal w refl refl refl refl (takes_number (λ z. done (the_primary.Number (place s) z)) w ends))
complete (gram.text {s = s} w) h =
    (led_by w refl (omega arith) (omega arith), literal w refl refl refl refl (rejects (seen kind_is_number w) (takes_text (λ z. done (the_primary.Text (place s) z)) w ends)))
complete (gram.macro {s = s} w) h =
    (led_by w refl (omega arith) (omega arith), literal w refl refl refl refl (rejects (seen kind_is_number w) (rejects (seen kind_is_text w) (takes_macro (λ z. done (the_primary.Macro (place s) z)) w ends))))
complete (gram.date {s = s} w d) h =
    (name_lead (w, refl) (starless_behind (w, refl) (seen (kind_is_sign (codes ".")) d.1)), name_led (w, refl) (sees (seen kind_is_text d.1) (days _ d ends)))
complete (gram.truth {s = s} w) h =
    (led_by w refl (omega arith) (omega arith), literal w refl refl refl refl (rejects (seen kind_is_number w) (rejects (seen kind_is_text w) (rejects (seen kind_is_macro w) (takes_word (codes "true") w ends)))))
complete (gram.falsehood {s = s} w) h =
    (led_by w refl (omega arith) (omega arith), literal w refl refl refl refl (rejects (seen kind_is_number w) (rejects (seen kind_is_text w) (rejects (seen kind_is_macro w) (rejects (seen (kind_is_word (codes "true")) w) (takes_word (codes "false") w ends))))))
complete (gram.null {s = s} w) h =
    (led_by w refl (omega arith) (omega arith), literal w refl refl refl refl (rejects (seen kind_is_number w) (rejects (seen kind_is_text w) (rejects (seen kind_is_macro w) (rejects (seen (kind_is_word (codes "true")) w) (rejects (seen (kind_is_word (codes "false")) w) (takes_word (codes "null") w ends)))))))
complete (gram.column {of = of} {name = name} {s = s} {e = e} w) h = (column_lead of name s e w h, column_read {of = of} w h)
complete (gram.call {f = f} {s = s} e w v d u) h =
    let i = sign_scale (codes ")") 2 refl u in
    let D = complete d (omega (arith, i)) in
    let N : IsName w.0 s _ = (w.1, function_unreserved w.0 f w.2) in (
      name_lead N (starless_behind N (seen (kind_is_sign (codes ".")) v)),
      name_led N (undated (bytes_eq w.0 (codes "date")) (seen kind_is_text v) (sees (seen (kind_is_sign (codes "(")) v)
          (called (function_of w.0) w.2 (takes_sign (codes "(") v (nests e D (takes_sign (codes ")") u ends)))))),
    )
complete (gram.group {s = s} e w d u) h =
    let i = sign_scale (codes ")") 2 refl u in
    let D = complete d (omega (arith, i)) in
    (led_by w refl (omega arith) (omega arith), notes (sees (seen (kind_is_sign (codes "(")) w) (reads (notes (takes_sign (codes "(") w (nests e D.1 (takes_sign (codes ")") u ends)))) ends)))
complete (gram.case {s = s} e w o d y u) h =
    let i = word_scale (codes "end") 11 refl u in
    let Y = complete y (omega (arith, i)) in
    let D = complete d (omega (arith, Y.0)) in
    let O = complete o D.0 in (
      led_by w refl (omega arith) (omega arith),
      notes (misses (seen (kind_is_sign (codes "(")) w) (sees (seen (kind_is_word (codes "case")) w)
          (reads (notes (takes_word (codes "case") w (nests e O (nests e (D.1 _ _ (misses (no_word (codes "when") 13 _ refl Y.0) ends)) (nests e Y.1 (takes_word (codes "end") u ends)))))) ends))),
    )
complete (gram.cast {x = x} {s = s} e w v d u k y) h =
    let i = word_scale (codes "as") 15 refl u in
    let D = complete d (omega (arith, i)) in (
      led_by w refl (omega arith) (omega arith),
      notes (misses (seen (kind_is_sign (codes "(")) w) (misses (seen (kind_is_word (codes "case")) w) (sees (seen (kind_is_word (codes "cast")) w)
          (reads (notes (takes_word (codes "cast") w (takes_sign (codes "(") v (nests e D.1 (takes_word (codes "as") u (takes_type (λ z. accept (is_sign (codes ")")) (λ g. done (the_primary.Cast (place s) x z)) stuck) k (takes_sign (codes ")") y ends))))))) ends)))),
    )
complete gram.no_operand h = sees (seen (kind_is_word (codes "when")) h.1) ends
complete (gram.an_operand {s = s} d) h =
    let i = word_scale (codes "when") 13 refl h.1 in
    let D = complete d (omega (arith, i)) in
    misses (unopened_when s D.0) (reads D.1 ends)
complete (gram.one_arm d) h = let D = complete d h in (D.0, λ t f g. reads D.1 (reads g ends))
complete (gram.more_arm d x) h =
    let X = complete x h in
    let i = word_scale (codes "when") 13 refl X.0.1 in
    let D = complete d (omega (arith, i)) in
    (D.0, λ t f g. D.1 t f (sees (seen (kind_is_word (codes "when")) X.0.1) (reads X.1 (reads g ends))))
complete (gram.when {m = m} w d v x) h =
    let i = word_scale (codes "then") 14 refl v in
    let D = complete d (omega (arith, i)) in
    let X = complete x h in
    ((m, w), notes (takes_word (codes "when") w (reads D.1 (takes_word (codes "then") v (reads X.1 ends)))))
complete (gram.no_else {s = s}) h = (omega (arith, h), rejects (no_word (codes "else") 12 s refl h) ends)
complete (gram.an_else w d) h =
    let i = word_scale (codes "else") 12 refl w in
    let D = complete d (omega (arith, h)) in
    (omega (arith, i), takes_word (codes "else") w (reads D.1 ends))
complete (gram.star w) h = notes (takes_sign (codes "*") w ends)
complete (gram.different w d) h =
    let D = complete d (omega (arith, h)) in
    notes (rejects (seen (kind_is_sign (codes "*")) w) (takes_word (codes "distinct") w (reads D.1 ends)))
complete (gram.one_argument {f = f} {x = x} {s = s} {e = e} o d) h = let D = complete d (omega (arith, h)) in one_argument_read f s e o D.0 D.1
complete (gram.two_arguments d w y) h =
    let i = sign_scale (codes ",") 10 refl w in
    let D = complete d (omega (arith, i)) in
    let Y = complete y (omega (arith, h)) in
    notes (reads D.1 (takes_sign (codes ",") w (reads Y.1 ends)))
complete (gram.more_arguments {xs = xs} {e = e} d) h =
    let D = complete d (omega (arith, h)) in
    notes (reads (D.1 xs e (rejects (no_sign (codes ",") 10 e refl h) ends)) ends)
complete (gram.one_expr d) h = let D = complete d h in (D.0, λ t f g. reads D.1 (reads g ends))
complete (gram.more_expr d w x) h =
    let i = sign_scale (codes ",") 10 refl w in
    let D = complete d (omega (arith, i)) in
    let X = complete x h in
    (D.0, λ t f g. D.1 t f (takes_sign (codes ",") w (reads X.1 (reads g ends))))
complete (gram.all w) h = let o = opens_next w in (omega (arith, o), notes (takes_sign (codes "*") w ends))
complete (gram.all_of {s = s} w v u) h =
    let o = name_opens w in
    (omega (arith, o), notes (rejects (seen (kind_is_sign (codes "*")) w.0) (star_read w v u)))
complete (gram.one_value {a = a} {s = s} {m = m} d w) h =
    let A = alias_read {a = a} w h in
    let D = complete d A.0 in
    (D.0.0, notes (rejects (unopened_times s D.0.1) (starless D.0.2 (reads D.1 (reads A.1 ends)))))
complete (gram.one_item d) h = let D = complete d h in (D.0, λ t f g. reads D.1 (reads g ends))
complete (gram.more_item {i = i} d w x) h =
    let c = sign_scale (codes ",") 10 refl w in
    let D = complete d (omega (arith, c)) in
    let X = complete x h in
    (D.0, λ t f g. D.1 t f (takes_sign (codes ",") w (misses (unended i X.0) (sees (is_there i X.0) (reads X.1 (reads g ends))))))
complete (gram.no_source {s = s}) h = (omega (arith, h), rejects (no_word (codes "from") 7 s refl h) ends)
complete (gram.a_source w d) h =
    let i = word_scale (codes "from") 7 refl w in
    let D = complete d (omega (arith, h)) in
    (omega (arith, i), takes_word (codes "from") w (reads D ends))
complete (gram.related {r = r} {xs = xs} {s = s} {e = e} d) h =
    let D = complete d (omega (arith, h)) in
    D (record { at = place s; first = r; joins = xs }) e (misses (no_join e (omega (arith, h))) ends)
complete (gram.one_relation w) h = λ t f g. notes (reads (relation_read w h) (reads g ends))
complete (gram.more_relation d x) h =
    let X = complete x h in
    let D = complete d X.1 in
    λ t f g. D t f (sees X.0 (reads X.2 (reads g ends)))
complete (gram.comma w r) h =
    let i = sign_scale (codes ",") 10 refl w in
    (seen kind_begins_join w, omega (arith, i), notes (takes_sign (codes ",") w (reads (relation_read r h) ends)))
complete (gram.cross w v r) h =
    let i = word_scale (codes "cross") 9 refl w in
    (seen kind_begins_join w, omega (arith, i), notes (rejects (seen (kind_is_sign (codes ",")) w) (takes_word (codes "cross") w (takes_word (codes "join") v (reads (relation_read r h) ends)))))
complete (gram.inner {s = s} {e = e} w v r u d) h =
    let j = word_scale (codes "on") 8 refl u in
    let D = complete d (omega (arith, h)) in
    inner_read w v (reads (relation_read r (omega (arith, j))) (takes_word (codes "on") u (reads D.1 ends)))
complete (gram.left {s = s} w o v r u d) h =
    let i = word_scale (codes "left") 9 refl w in
    let j = word_scale (codes "on") 8 refl u in
    let D = complete d (omega (arith, h)) in (
      seen kind_begins_join w,
      omega (arith, i),
      notes (rejects (seen (kind_is_sign (codes ",")) w) (rejects (seen (kind_is_word (codes "cross")) w) (takes_word (codes "left") w
          (outer_read (place s) o v (reads (relation_read r (omega (arith, j))) (takes_word (codes "on") u (reads D.1 ends))))))),
    )
complete (gram.no_condition {w = w} {s = s}) h = let i = h.0 in (omega (arith, i), rejects (no_word w (kind_scale (Ident w)) s refl h.0) ends)
complete (gram.a_condition {w = w} v d) h =
    let i = scale_next v in
    let D = complete d h.1 in
    (omega (arith, i), takes_word w v (reads D.1 ends))
complete (gram.no_keys {s = s}) h = (omega (arith, h), rejects (no_word (codes "group") 5 s refl h) ends)
complete (gram.some_keys {xs = xs} {e = e} w v d) h =
    let i = word_scale (codes "group") 5 refl w in
    let D = complete d (omega (arith, h)) in
    (omega (arith, i), takes_word (codes "group") w (takes_word (codes "by") v (reads (D.1 xs e (rejects (no_sign (codes ",") 10 e refl (omega (arith, h))) ends)) ends)))
complete (gram.selected {d = d} {xs = xs} {s = s} {a = a} {b = b} {c = c} {i = i} {j = j} {l = l} W F I C S V K H) h =
    let H2 = complete H (h, omega (arith, h)) in
    let hl : scale l < 5 = H2.0 in
    let K2 = complete K hl in
    let kl = K2.0 in
    let V2 = complete V (kl, omega (arith, kl)) in
    let vl : scale j < 7 = V2.0 in
    let S2 = complete S vl in
    let I2 = complete I (optional_scale 15 C (omega (arith, S2.0)) (omega arith)) in
    ((a, W), notes (takes_word (codes "select") W (flag_read _ d b F I2.0 (reads (I2.1 xs i (items_end C S2.0)) (reads S2.1 (reads V2.1 (reads K2.1 (reads H2.1 ends))))))))
complete (gram.one_select d) h = let D = complete d h in (D.0, λ t f g. notes (reads D.1 (reads g ends)))
complete (gram.more_select d w v x) h =
    let i = word_scale (codes "union") 3 refl w in
    let D = complete d (omega (arith, i)) in
    let X = complete x h in
    (D.0, λ t f g. D.1 t f (takes_word (codes "union") w (takes_word (codes "all") v (reads X.1 (reads g ends)))))
complete (gram.unions {xs = xs} {s = s} {e = e} d) h =
    let D = complete d (omega (arith, h)) in
    (D.0, D.1 (record { at = place s; selects = xs }) e (rejects (no_word (codes "union") 3 e refl h) ends))
complete (gram.defined {s = s} e w v u d y) h =
    let i = sign_scale (codes ")") 2 refl y in
    let D = complete d (omega (arith, i)) in
    notes (takes_name (λ z. accept (is_word (codes "as")) (λ j. accept (is_sign (codes "(")) (λ i. nest union (λ u. accept (is_sign (codes ")")) (λ h. done (record { at = place s; name = z; body = u })) stuck)) stuck) stuck) w (takes_word (codes "as") v (takes_sign (codes "(") u (nests e D.1 (takes_sign (codes ")") y ends)))))
complete (gram.one_cte d) h = let D = complete d tt in λ t f g. reads D (reads g ends)
complete (gram.more_cte d w x) h =
    let D = complete d tt in
    let X = complete x tt in
    λ t f g. D t f (takes_sign (codes ",") w (reads X (reads g ends)))
complete gram.no_ctes h = rejects (opened_select h).1 ends
complete (gram.some_ctes {xs = xs} {e = e} w d) h =
    let D = complete d tt in
    takes_word (codes "with") w (reads (D xs e (rejects (opened_select h).0 ends)) ends)
complete (gram.whole {i = i} {e = e} c u w) h =
    let U = complete u (semicolon_scale w h) in
    let C = complete c U.0 in
    notes (reads C (reads U.1 (semicolon_read w h)))
