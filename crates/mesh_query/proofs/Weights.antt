-- As many nodes are taken away while a phrase is read as its tree has.
use Rattle.std.proofs.Common.{◌≡◌, ◌≤◌, ◌<◌, ℕ, ℤ, codes, Option, Some, None, ◌+◌, ◌-◌, List, [], ◌∷◌, ◌++◌, Bool, true, false, ◌&&◌, length, map, nat_le, ◌⊎◌, inl, inr, refl, ap, sym, ◌∙◌, arith}
use Rattle.std.specs.List.{list_all, sum}
use Rattle.std.specs.Option.{option_map}
use Rattle.std.proofs.Math.Bool.{and_assoc}
use Rattle.std.proofs.lemmas.Bool.Decides.{leb_tells}
use Rattle.std.proofs.lemmas.List.{length-append, length-map}
use Rattle.std.proofs.lemmas.List.Folds.{list_all-append}
use Rattle.std.proofs.lemmas.List.Sums.{sum-map, sum_by-append}
use Rattle.mesh_query_tokens.specs.declared.tokens.Token.{Token}
use Rattle.mesh_base_values.specs.declared.values.ColType.{ColType}
use Rattle.mesh_query_tokens.specs.declared.tokens.TokenKind.{TokenKind}
use Rattle.mesh_query_tokens.specs.declared.tokens.TokenKind.TheVariants.{Ident, Sign, Number, Text, Macro}
use Rattle.mesh_query_grammar.specs.declared.surface.expressions.OrExpr.{OrExpr}
use Rattle.mesh_query_grammar.specs.declared.surface.expressions.Primary.{Primary}
use Rattle.mesh_query_grammar.specs.declared.surface.queries.Surface.{Surface}
use Rattle.mesh_query_grammar.specs.declared.surface.queries.SurfaceJoin.{SurfaceJoin}
use Rattle.mesh_query_grammar.specs.declared.surface.queries.SurfaceJoin.TheVariants as the_join
use Rattle.mesh_query_grammar.specs.declared.surface.queries.SurfaceRel.{SurfaceRel}
use Rattle.mesh_query_grammar.specs.declared.surface.signs.Function.{Function}
use Rattle.mesh_query_grammar.specs.declared.surface.signs.Function.TheVariants as the_function
use Rattle.mesh_query_grammar.specs.Words.{function_of}
use Rattle.mesh_query_grammar.specs.Signs.{place}
use Rattle.mesh_query_grammar.specs.Rules.{Rule, Tree, expr, more_ors, conjunction, more_ands, negation, pred, tested, ranged, cat, more_cats, sum as a_sum, more_sums, product, more_products, signed, post, more_casts, value, named, group, case, cast, operand, arms, more_arms, arm, otherwise, arguments, exprs, more_exprs, item, items, more_items, alias, qualified, relation, relations, more_joins, join, joined, source, condition, keys, select, selected, union, more_selects, cte, cte_list, more_ctes, ctes, query}
use Rattle.mesh_query_grammar.specs.Plans.{Plan, done, stuck, accept, peek, note, read, nest, day, star, plan, call_plan, column_plan, named_plan, arguments_plan, on_plan, is_word, is_sign, is_cmp, kind_is_word, kind_is_sign, kind_is_type, type_named, said, amount, cmp_said, add_said, mul_said}
use Rattle.std.proofs.lemmas.Slice.Eq.{bytes_eq-Decides}
use Rattle.mesh_query_grammar.specs.Machine.{Runs, ends, accepts, rejects, sees, misses, notes, reads, nests, days, stars, starless}
use Rattle.std.specs.Str.{bytes_eq}
use Rattle.mesh_query.proofs.Layers.{or_layer, and_layer, pred_layer, cat_layer, sum_layer, add_layer, product_layer, mul_layer, post_layer, arm_layer, not_layer, plain_layer, nothing_layer, compare_layer, is_null_layer, between_layer, one_of_layer, minus_layer, unsigned_layer, number_layer, text_layer, date_layer, truth_layer, null_layer, macro_layer, column_layer, call_layer, group_layer, case_layer, cast_layer, star_layer, distinct_layer, list_layer}
use Rattle.mesh_query.specs.Counts.{is_node, less, anew, inside, entered, left_behind, Reads}
use Rattle.mesh_query.specs.Sizes.{operators, some_nodes, nodes_of, and_nodes, not_nodes, pred_nodes, test_nodes, cat_nodes, sum_nodes, add_nodes, product_nodes, mul_nodes, unary_nodes, post_nodes, value_nodes, arm_nodes, args_nodes, is_small, is_some_small, is_item_small, is_join_small, is_from_small, is_select_small, is_union_small, is_cte_small, is_within}

-- some node is left
abbrev pub some : ℕ → Bool
some c = nat_le 1 c

-- none is left where none was, or where the part is too large
abbrev pub Kept : Bool → ℕ → ℕ → Type 0
Kept small c b = some b ≡ (some c && small)

-- The parts before have been read from another number on, and so have the parts of the whole then.
abbrev pub Onto : ℕ → ℕ → ℕ → ℕ → Type 0
Onto known whole c b = (z : ℕ) → c ≡ z - known → b ≡ z - whole

abbrev pub AllOnto : {X : Type 0} → (X → Bool) → List X → List X → ℕ → ℕ → Type 0
AllOnto p known whole c b = (z : Bool) → some c ≡ (z && list_all p known) → some b ≡ (z && list_all p whole)

-- parts with operators between them, of which there is one
abbrev pub Chain : {X : Type 0} → (X → ℕ) → List X → ℕ → ℕ → ℕ → Type 0
Chain f known whole c b = 0 < length known → Onto (operators (map f known) + sum (map f known)) whole c b

-- what is left behind a phrase within an expression
abbrev pub Within : (r : Rule) → Tree r → ℕ → ℕ → Type 0
Within expr t c b = b ≡ c - nodes_of t
Within (more_ors at xs) t c b = Chain and_nodes xs (nodes_of t) c b
Within conjunction t c b = b ≡ c - and_nodes t
Within (more_ands at xs) t c b = Chain not_nodes xs (and_nodes t) c b
Within negation t c b = b ≡ c - not_nodes t
Within pred t c b = b ≡ c - pred_nodes t
Within tested t c b = b ≡ c - test_nodes t
Within (ranged g) t c b = b ≡ c - test_nodes t
Within cat t c b = b ≡ c - cat_nodes t
Within (more_cats at xs) t c b = Chain sum_nodes xs (cat_nodes t) c b
Within a_sum t c b = b ≡ c - sum_nodes t
Within (more_sums at x xs) t c b = Onto (product_nodes x + sum (map add_nodes xs)) (sum_nodes t) c b
Within product t c b = b ≡ c - product_nodes t
Within (more_products at x xs) t c b = Onto (unary_nodes x + sum (map mul_nodes xs)) (product_nodes t) c b
Within signed t c b = b ≡ c - unary_nodes t
Within post t c b = b ≡ c - post_nodes t
Within (more_casts at v ks) t c b = Onto (value_nodes v + length ks) (post_nodes t) c b
Within value t c b = b ≡ c - value_nodes t
Within (named at name) t c b = Onto 1 (value_nodes t) c b
Within group t c b = b ≡ c - value_nodes t
Within case t c b = b ≡ c - value_nodes t
Within cast t c b = Onto 1 (value_nodes t) c b
Within operand t c b = b ≡ c - some_nodes (option_map nodes_of t)
Within arms t c b = b ≡ c - sum (map arm_nodes t)
Within (more_arms xs) t c b = Onto (sum (map arm_nodes xs)) (sum (map arm_nodes t)) c b
Within arm t c b = b ≡ c - arm_nodes t
Within otherwise t c b = b ≡ c - some_nodes (option_map nodes_of t)
Within (arguments f) t c b = b ≡ c - args_nodes t
Within exprs t c b = b ≡ c - sum (map nodes_of t)
Within (more_exprs xs) t c b = Onto (sum (map nodes_of xs)) (sum (map nodes_of t)) c b
Within _ t c b = Unit {0}

-- what is left behind a phrase of a query
abbrev pub Outside : (r : Rule) → Tree r → ℕ → ℕ → Type 0
Outside exprs t c b = Kept (list_all is_small t) c b
Outside (more_exprs xs) t c b = AllOnto is_small xs t c b
Outside item t c b = Kept (is_item_small t) c b
Outside items t c b = Kept (list_all is_item_small t) c b
Outside (more_items xs) t c b = AllOnto is_item_small xs t c b
Outside alias t c b = b ≡ c
Outside qualified t c b = b ≡ c
Outside relation t c b = b ≡ c
Outside relations t c b = Kept (list_all is_join_small t.joins) c b
Outside (more_joins at r xs) t c b = AllOnto is_join_small xs t.joins c b
Outside join t c b = Kept (is_join_small t) c b
Outside joined t c b = Kept (is_small t.1) c b
Outside source t c b = Kept (is_from_small t) c b
Outside (condition w) t c b = Kept (is_some_small t) c b
Outside keys t c b = Kept (list_all is_small t) c b
Outside select t c b = Kept (is_select_small t) c b
Outside (selected at d) t c b = Kept (is_select_small t) c b
Outside union t c b = Kept (is_union_small t) c b
Outside (more_selects at xs) t c b = AllOnto is_select_small xs t.selects c b
Outside cte t c b = Kept (is_cte_small t) c b
Outside cte_list t c b = Kept (list_all is_cte_small t) c b
Outside (more_ctes xs) t c b = AllOnto is_cte_small xs t c b
Outside ctes t c b = Kept (list_all is_cte_small t) c b
Outside query t c b = Kept (is_within t) c b
Outside _ t c b = Unit {0}

abbrev pub Meant : Bool → (r : Rule) → Tree r → ℕ → ℕ → Type 0
Meant true r t c b = Within r t c b
Meant false r t c b = Outside r t c b

-- whatever a plan sees, its end is meant
abbrev pub Good : Bool → (r : Rule) → Plan r → (Tree r → ℕ → Type 0) → ℕ → Type 0
Good i r (done t) M c = M t c
Good i r stuck M c = Unit {0}
Good i r (accept test f q) M c = ((k : Token) → test k ≡ true → Good i r (f k) M (less (is_node r k.kind) c)) × Good i r q M c
Good i r (peek test p q) M c = Good i r p M c × Good i r q M c
Good i r (note f) M c = (at : ℕ) → Good i r (f at) M c
Good i r (read o f) M c = (a : Tree o) (b : ℕ) → Meant (inside i o) o a (entered i r o c) b → Good i r (f a) M b
Good i r (nest o f) M c = (a : Tree o) (b : ℕ) → Meant (inside i o) o a (entered i r o c) b → Good i r (f a) M b
Good i r (day f) M c = (d : ℤ) → Good i r (f d) M c
Good i r (star f q) M c = ((k : Token) → Good i r (f k) M c) × Good i r q M c

abbrev Rules : Type 0
Rules = (i : Bool) (r : Rule) (c : ℕ) → Good i r (plan r) (λ t b. Meant i r t c b) c

pub holds : Rules → (i : Bool) {n : ℕ} {r : Rule} {p : Plan r} {t : Tree r} {s e : List Token} (M : Tree r → ℕ → Type 0) (c : ℕ) (d : Runs n r p t s e) → Good i r p M c → M t (left_behind i d c)
holds all i M c ends g = g
holds all i M c (accepts {r = r} {k = k} h d) g = holds all i M (less (is_node r k.kind) c) d (g.0 k h)
holds all i M c (rejects h d) g = holds all i M c d g.1
holds all i M c (sees h d) g = holds all i M c d g.0
holds all i M c (misses h d) g = holds all i M c d g.1
holds all i M c (notes {s = s} d) g = holds all i M c d (g (place s))
holds all i M c (reads {r = r} {o = o} {a = a} d w) g =
    let b = left_behind (inside i o) d (entered i r o c) in
    holds all i M b w (g a b (holds all (inside i o) (λ t b. Meant (inside i o) o t (entered i r o c) b) (entered i r o c) d (all (inside i o) o (entered i r o c))))
holds all i M c (nests {r = r} {o = o} {a = a} h d w) g =
    let b = left_behind (inside i o) d (entered i r o c) in
    holds all i M b w (g a b (holds all (inside i o) (λ t b. Meant (inside i o) o t (entered i r o c) b) (entered i r o c) d (all (inside i o) o (entered i r o c))))
holds all i M c (days x h d) g = holds all i M c d (g x)
holds all i M c (stars {k = k} h d) g = holds all i M c d (g.0 k)
holds all i M c (starless h d) g = holds all i M c d g.1

-- nothing is asked
pub unasked : (i : Bool) (r : Rule) (p : Plan r) (M : Tree r → ℕ → Type 0) (c : ℕ) → ((t : Tree r) (b : ℕ) → M t b) → Good i r p M c
unasked i r (done t) M c h = h t c
unasked i r stuck M c h = tt
unasked i r (accept test f q) M c h = (λ k g. unasked i r (f k) M (less (is_node r k.kind) c) h, unasked i r q M c h)
unasked i r (peek test p q) M c h = (unasked i r p M c h, unasked i r q M c h)
unasked i r (note f) M c h = λ at. unasked i r (f at) M c h
unasked i r (read o f) M c h = λ a b g. unasked i r (f a) M b h
unasked i r (nest o f) M c h = λ a b g. unasked i r (f a) M b h
unasked i r (day f) M c h = λ d. unasked i r (f d) M c h
unasked i r (star f q) M c h = (λ k. unasked i r (f k) M c h, unasked i r q M c h)

-- one part more
more : {X : Type 0} (f : X → ℕ) (xs : List X) (x : X) → sum (map f (xs ++ x ∷ [])) ≡ sum (map f xs) + f x
more f xs x = sum-map f (xs ++ x ∷ []) ∙ sum_by-append f xs (x ∷ []) ∙ (let h = sum-map f xs in let one : sum (map f (x ∷ [])) ≡ f x = omega arith in let g = sum-map f (x ∷ []) in omega (arith, h, g, one))

-- one part more, and the operator before it
chained : {X : Type 0} (f : X → ℕ) (xs : List X) (x : X) (c b z : ℕ) → 0 < length xs → c ≡ z - (operators (map f xs) + sum (map f xs)) → b ≡ c - 1 - f x → b ≡ z - (operators (map f (xs ++ x ∷ [])) + sum (map f (xs ++ x ∷ [])))
chained f xs x c b z h g e =
    let l = length-map xs f in
    let m = length-map (xs ++ x ∷ []) f in
    let n = length-append xs (x ∷ []) in
    let s = more f xs x in
    omega (arith, h, g, e, l, m, n, s)

longer : {X : Type 0} (xs : List X) (x : X) → 0 < length (xs ++ x ∷ [])
longer xs x = let n = length-append xs (x ∷ []) in omega (arith, n)

-- parts of an expression, with a sign before each
summed : {X : Type 0} (f : X → ℕ) (k : ℕ) (xs : List X) (x : X) (c b z : ℕ) → c ≡ z - (k + sum (map f xs)) → b ≡ c - f x → b ≡ z - (k + sum (map f (xs ++ x ∷ [])))
summed f k xs x c b z g e = let s = more f xs x in omega (arith, g, e, s)

listed : {X : Type 0} (f : X → ℕ) (xs : List X) (x : X) (c b z : ℕ) → c ≡ z - sum (map f xs) → b ≡ c - f x → b ≡ z - sum (map f (xs ++ x ∷ []))
listed f xs x c b z g e = let s = more f xs x in omega (arith, g, e, s)

-- every part so far is small, and one more
all_more : {X : Type 0} (p : X → Bool) (xs : List X) (x : X) (c b : ℕ) (z : Bool) → some c ≡ (z && list_all p xs) → Kept (p x) c b → some b ≡ (z && list_all p (xs ++ x ∷ []))
all_more p xs x c b z g e = e ∙ ap (λ v. v && p x) g ∙ and_assoc z (list_all p xs) (p x) ∙ ap (λ v. z && v) (ap (λ v. list_all p xs && v) (sym (alone (p x))) ∙ sym (list_all-append p xs (x ∷ [])))
  where
    alone : (b : Bool) → (b && true) ≡ b
    alone true = refl
    alone false = refl

-- an expression that is read anew leaves something where it is small
left_small : (c n b : ℕ) → b ≡ anew c - n → some b ≡ (some c && nat_le n 4096)
left_small c n b h = either (leb_tells 1 c) (leb_tells n 4096) (leb_tells 1 b)
  where
    either : ((nat_le 1 c ≡ true) × (1 ≤ c)) ⊎ ((nat_le 1 c ≡ false) × (c < 1)) → ((nat_le n 4096 ≡ true) × (n ≤ 4096)) ⊎ ((nat_le n 4096 ≡ false) × (4096 < n)) → ((nat_le 1 b ≡ true) × (1 ≤ b)) ⊎ ((nat_le 1 b ≡ false) × (b < 1)) → nat_le 1 b ≡ (nat_le 1 c && nat_le n 4096)
    either (inl x) (inl y) (inl w) = rw (x.0, y.0, w.0) refl
    either (inl x) (inl y) (inr w) = absurd (let e : anew c ≡ 4097 = rw x.0 refl in omega (arith, h, e, y.1, w.1))
    either (inl x) (inr y) (inl w) = absurd (let e : anew c ≡ 4097 = rw x.0 refl in omega (arith, h, e, y.1, w.1))
    either (inl x) (inr y) (inr w) = rw (x.0, y.0, w.0) refl
    either (inr x) y (inl w) = absurd (let e : anew c ≡ 0 = rw x.0 refl in omega (arith, h, e, w.1))
    either (inr x) y (inr w) = rw (x.0, w.0) refl

-- nothing is taken away
zero : (c : ℕ) → c ≡ c - 0
zero c = omega arith

one_taken : (c a : ℕ) {b w : ℕ} → b ≡ c - 1 - a → w ≡ 1 + a → b ≡ c - w
one_taken c a h e = omega (arith, h, e)

two : (c m a d : ℕ) {e w : ℕ} → m ≡ c - a → e ≡ m - d → w ≡ a + d → e ≡ c - w
two c m a d h g e = omega (arith, h, g, e)

by_layer : (c : ℕ) {b n w : ℕ} → b ≡ c - n → w ≡ n → b ≡ c - w
by_layer c h e = h ∙ ap (λ v. c - v) (sym e)

first : {X : Type 0} (f : X → ℕ) (x : X) (c : ℕ) {b : ℕ} → b ≡ c - f x → b ≡ c - sum (map f (x ∷ []))
first f x c h = omega (arith, h)

chain_first : {X : Type 0} (f : X → ℕ) (x : X) (c : ℕ) {b : ℕ} → b ≡ c - f x → b ≡ c - (operators (map f (x ∷ [])) + sum (map f (x ∷ [])))
chain_first f x c h = omega (arith, h)

-- the kind of a token that passed a test
word_kind : (w : List ℕ) (kind : TokenKind) → kind_is_word w kind ≡ true → kind ≡ Ident w
word_kind w (Ident x) h = ap (λ z. Ident z) ((bytes_eq-Decides x w).0 h)
word_kind w (Sign x) h = absurd cc
word_kind w (Number x) h = absurd cc
word_kind w (Text x) h = absurd cc
word_kind w (Macro x) h = absurd cc

sign_kind : (w : List ℕ) (kind : TokenKind) → kind_is_sign w kind ≡ true → kind ≡ Sign w
sign_kind w (Sign x) h = ap (λ z. Sign z) ((bytes_eq-Decides x w).0 h)
sign_kind w (Ident x) h = absurd cc
sign_kind w (Number x) h = absurd cc
sign_kind w (Text x) h = absurd cc
sign_kind w (Macro x) h = absurd cc

word_less : (r : Rule) (w : List ℕ) (k : Token) (c : ℕ) → is_word w k ≡ true → less (is_node r k.kind) c ≡ less (is_node r (Ident w)) c
word_less r w k c h = ap (λ z. less (is_node r z) c) (word_kind w k.kind h)

sign_less : (r : Rule) (w : List ℕ) (k : Token) (c : ℕ) → is_sign w k ≡ true → less (is_node r k.kind) c ≡ less (is_node r (Sign w)) c
sign_less r w k c h = ap (λ z. less (is_node r z) c) (sign_kind w k.kind h)

abbrev of_kind : TokenKind → Token
of_kind kind = record { start = 0; end = 0; kind = kind }

cmp_less : (kind : TokenKind) (c : ℕ) → is_cmp (of_kind kind) ≡ true → less (is_node tested kind) c ≡ c - 1
cmp_less (Sign x) c h = refl
cmp_less (Ident x) c h = absurd cc
cmp_less (Number x) c h = absurd cc
cmp_less (Text x) c h = absurd cc
cmp_less (Macro x) c h = absurd cc

type_less : (at : ℕ) (v : Primary) (ks : List ColType) (k : TokenKind) (c : ℕ) → kind_is_type k ≡ true → less (is_node (more_casts at v ks) k) c ≡ c
type_less at v ks (Ident x) c h = refl
type_less at v ks (Sign x) c h = absurd cc
type_less at v ks (Number x) c h = absurd cc
type_less at v ks (Text x) c h = absurd cc
type_less at v ks (Macro x) c h = absurd cc

call_good : (at : ℕ) (name : List ℕ) (o : Option Function) (c : ℕ) → Good true (named at name) (call_plan at name o) (λ t b. Within (named at name) t c b) c
call_good at name None c = tt
call_good at name (Some f) c = (λ k h a b A. (λ j g z e. let n = call_layer at f a in omega (arith, A, e, n), tt), tt)

column_good : (at : ℕ) (name : List ℕ) (c : ℕ) → Good true (named at name) (column_plan at name) (λ t b. Within (named at name) t c b) c
column_good at name c = (call_good at name (function_of name) c, (λ k h. (λ j f z g. by_layer z g (column_layer at (Some name) (said j)), tt), λ z g. by_layer z g (column_layer at None name)))

named_good : (at : ℕ) (name : List ℕ) (d : Bool) (c : ℕ) → Good true (named at name) (named_plan at name d) (λ t b. Within (named at name) t c b) c
named_good at name true c = (λ d z g. by_layer z g (date_layer at d), column_good at name c)
named_good at name false c = column_good at name c

arguments_good : (f : Function) (c : ℕ) → Good true (arguments f) (arguments_plan f) (λ t b. b ≡ c - args_nodes t) c
arguments_good the_function.Count c = λ at. (λ k h. by_layer c (zero c) (star_layer at), (λ k h x b X. by_layer c X (distinct_layer at x), λ x b X. by_layer c (first nodes_of x c X) (list_layer at (x ∷ []))))
arguments_good the_function.Nullif c = λ at x b X. (λ k h y e Y. let d : e ≡ c - sum (map nodes_of (x ∷ y ∷ [])) = omega (arith, X, Y) in by_layer c d (list_layer at (x ∷ y ∷ [])), tt)
arguments_good the_function.Coalesce c = λ at xs b X. by_layer c X (list_layer at xs)
arguments_good the_function.Abs c = λ at x b X. by_layer c (first nodes_of x c X) (list_layer at (x ∷ []))
arguments_good the_function.Length c = λ at x b X. by_layer c (first nodes_of x c X) (list_layer at (x ∷ []))
arguments_good the_function.Upper c = λ at x b X. by_layer c (first nodes_of x c X) (list_layer at (x ∷ []))
arguments_good the_function.Lower c = λ at x b X. by_layer c (first nodes_of x c X) (list_layer at (x ∷ []))
arguments_good the_function.Sum c = λ at x b X. by_layer c (first nodes_of x c X) (list_layer at (x ∷ []))
arguments_good the_function.Min c = λ at x b X. by_layer c (first nodes_of x c X) (list_layer at (x ∷ []))
arguments_good the_function.Max c = λ at x b X. by_layer c (first nodes_of x c X) (list_layer at (x ∷ []))

-- the forms of an expression
within : (r : Rule) (c : ℕ) → Good true r (plan r) (λ t b. Within r t c b) c
within expr c = λ at x b X t e T. T (omega arith) c (chain_first and_nodes x c X)
within (more_ors at xs) c = (λ k h x b X t e T p z g. T (longer xs x) z (chained and_nodes xs x c b z p g X), λ p z g. by_layer z g (or_layer at xs))
within conjunction c = λ at x b X t e T. T (omega arith) c (chain_first not_nodes x c X)
within (more_ands at xs) c = (λ k h x b X t e T p z g. T (longer xs x) z (chained not_nodes xs x c b z p g X), λ p z g. by_layer z g (and_layer at xs))
within negation c = λ at. (λ k h x b X. one_taken c (not_nodes x) X (not_layer at x), λ p b P. by_layer c P (plain_layer at p))
within pred c = λ at l b L t e T. two c b (cat_nodes l) (test_nodes t) L T (pred_layer at l t)
within tested c = (
  λ k h. (
    λ j g. (λ i f. by_layer c (word_less tested (codes "null") i _ f ∙ word_less tested (codes "not") j _ g ∙ word_less tested (codes "is") k c h) (is_null_layer true), tt),
    (λ j f. by_layer c (word_less tested (codes "null") j _ f ∙ word_less tested (codes "is") k c h) (is_null_layer false), tt),
  ),
  (
    λ k h t b T. T ∙ ap (λ z. z - test_nodes t) (word_less tested (codes "not") k c h),
    (λ t b T. T, (λ k h r b R. one_taken c (cat_nodes r) (R ∙ ap (λ z. z - cat_nodes r) (cmp_less k.kind c h)) (compare_layer (cmp_said (said k)) r), by_layer c (zero c) nothing_layer)),
  ),
)
within (ranged g) c = (
  λ k h a b A. (
    λ j f d e D.
        let first : b ≡ c - 1 - cat_nodes a = A ∙ ap (λ z. z - cat_nodes a) (word_less (ranged g) (codes "between") k c h) in
        let last : e ≡ b - cat_nodes d = D ∙ ap (λ z. z - cat_nodes d) (word_less (ranged g) (codes "and") j b f) in
        let whole : e ≡ c - (1 + (cat_nodes a + cat_nodes d)) = omega (arith, first, last) in
        by_layer c whole (between_layer g a d),
    tt,
  ),
  (
    λ k h. (
      λ j f xs b X. (
        λ i l.
            let start : less (is_node (ranged g) j.kind) (less (is_node (ranged g) k.kind) c) ≡ c - 1 = sign_less (ranged g) (codes "(") j _ f ∙ word_less (ranged g) (codes "in") k c h in
            sign_less (ranged g) (codes ")") i b l ∙ one_taken c (sum (map nodes_of xs)) (X ∙ ap (λ z. z - sum (map nodes_of xs)) start) (one_of_layer g xs),
        tt,
      ),
      tt,
    ),
    tt,
  ),
)
within cat c = λ at x b X t e T. T (omega arith) c (chain_first sum_nodes x c X)
within (more_cats at xs) c = (λ k h x b X t e T p z g. T (longer xs x) z (chained sum_nodes xs x c b z p g X), λ p z g. by_layer z g (cat_layer at xs))
within a_sum c = λ at x b X t e T. T c (let d : b ≡ c - (product_nodes x + 0) = omega (arith, X) in d)
within (more_sums at x xs) c = (λ k h y b Y t e T z g. T z (summed add_nodes (product_nodes x) xs _ c b z g (one_taken c (product_nodes y) Y (add_layer k.start (add_said (said k)) y))), λ z g. by_layer z g (sum_layer at x xs))
within product c = λ at x b X t e T. T c (let d : b ≡ c - (unary_nodes x + 0) = omega (arith, X) in d)
within (more_products at x xs) c = (λ k h y b Y t e T z g. T z (summed mul_nodes (unary_nodes x) xs _ c b z g (one_taken c (unary_nodes y) Y (mul_layer k.start (mul_said (said k)) y))), λ z g. by_layer z g (product_layer at x xs))
within signed c = λ at. (λ k h x b X. one_taken c (unary_nodes x) X (minus_layer at x), λ p b P. by_layer c P (unsigned_layer at p))
within post c = λ at v b V t e T. T c (let d : b ≡ c - (value_nodes v + 0) = omega (arith, V) in d)
within (more_casts at v ks) c = (
  λ k h. (
    λ j f t e T z g.
        let start : less (is_node (more_casts at v ks) j.kind) (less (is_node (more_casts at v ks) k.kind) c) ≡ c - 1 = type_less at v ks j.kind _ f ∙ sign_less (more_casts at v ks) (codes "::") k c h in
        let n = length-append ks (type_named j ∷ []) in
        T z (omega (arith, start, g, n)),
    tt,
  ),
  λ z g. by_layer z g (post_layer at v ks),
)
within value c = λ at. (λ a b A. A, (λ a b A. A, (λ a b A. A c refl, (λ k h a b A. A c refl, (λ k h. by_layer c refl (number_layer at (amount k)), (λ k h. by_layer c refl (text_layer at (said k)), (λ k h. by_layer c refl (macro_layer at (said k)), (λ k h. by_layer c refl (truth_layer at true), (λ k h. by_layer c refl (truth_layer at false), (λ k h. by_layer c refl (null_layer at), tt))))))))))
within (named at name) c = named_good at name (bytes_eq name (codes "date")) c
within group c = λ at. (λ k h x b X. (λ j g. by_layer c X (group_layer at x), tt), tt)
within case c = λ at. (
  λ k h o b O xs d X f e F. (
    λ j g.
        let whole : e ≡ c - (1 + (some_nodes (option_map nodes_of o) + (sum (map arm_nodes xs) + some_nodes (option_map nodes_of f)))) = omega (arith, O, X, F) in
        by_layer c whole (case_layer at o xs f),
    tt,
  ),
  tt,
)
within cast c = λ at. (λ k h. (λ j g x b X. (λ i f. (λ l m. (λ n o z p. let w = cast_layer at x (type_named l) in omega (arith, X, p, w), tt), tt), tt), tt), tt)
within operand c = (zero c, λ x b X. X)
within arms c = λ x b X t e T. T c (first arm_nodes x c X)
within (more_arms xs) c = (λ x b X t e T z g. T z (listed arm_nodes xs x c b z g X), λ z g. g)
within arm c = λ at. (λ k h t b T. (λ j g v e V. two c b (nodes_of t) (nodes_of v) T V (arm_layer at t v), tt), tt)
within otherwise c = (λ k h x b X. X, zero c)
within (arguments f) c = arguments_good f c
within exprs c = λ x b X t e T. T c (first nodes_of x c X)
within (more_exprs xs) c = (λ k h x b X t e T z g. T z (listed nodes_of xs x c b z g X), λ z g. g)
within item c = unasked true item (plan item) _ c (λ t b. tt)
within items c = unasked true items (plan items) _ c (λ t b. tt)
within (more_items xs) c = unasked true (more_items xs) (plan (more_items xs)) _ c (λ t b. tt)
within alias c = unasked true alias (plan alias) _ c (λ t b. tt)
within qualified c = unasked true qualified (plan qualified) _ c (λ t b. tt)
within relation c = unasked true relation (plan relation) _ c (λ t b. tt)
within relations c = unasked true relations (plan relations) _ c (λ t b. tt)
within (more_joins at r xs) c = unasked true (more_joins at r xs) (plan (more_joins at r xs)) _ c (λ t b. tt)
within join c = unasked true join (plan join) _ c (λ t b. tt)
within joined c = unasked true joined (plan joined) _ c (λ t b. tt)
within source c = unasked true source (plan source) _ c (λ t b. tt)
within (condition w) c = unasked true (condition w) (plan (condition w)) _ c (λ t b. tt)
within keys c = unasked true keys (plan keys) _ c (λ t b. tt)
within select c = unasked true select (plan select) _ c (λ t b. tt)
within (selected at d) c = unasked true (selected at d) (plan (selected at d)) _ c (λ t b. tt)
within union c = unasked true union (plan union) _ c (λ t b. tt)
within (more_selects at xs) c = unasked true (more_selects at xs) (plan (more_selects at xs)) _ c (λ t b. tt)
within cte c = unasked true cte (plan cte) _ c (λ t b. tt)
within cte_list c = unasked true cte_list (plan cte_list) _ c (λ t b. tt)
within (more_ctes xs) c = unasked true (more_ctes xs) (plan (more_ctes xs)) _ c (λ t b. tt)
within ctes c = unasked true ctes (plan ctes) _ c (λ t b. tt)
within query c = unasked true query (plan query) _ c (λ t b. tt)

-- nothing is too large
kept : (c : ℕ) → Kept true c c
kept c = sym (and_true (some c))
  where
    and_true : (b : Bool) → (b && true) ≡ b
    and_true true = refl
    and_true false = refl

kept_as : {c b : ℕ} → b ≡ c → Kept true c b
kept_as {c = c} h = ap some h ∙ kept c

all_first : {X : Type 0} (p : X → Bool) (x : X) (c b : ℕ) → Kept (p x) c b → some b ≡ (some c && list_all p (x ∷ []))
all_first p x c b h = h ∙ ap (λ v. some c && v) (sym (alone (p x)))
  where
    alone : (b : Bool) → (b && true) ≡ b
    alone true = refl
    alone false = refl

-- one part and then another
both_kept : (p q : Bool) (c m e : ℕ) → Kept p c m → Kept q m e → Kept (p && q) c e
both_kept p q c m e h g = g ∙ ap (λ v. v && q) h ∙ and_assoc (some c) p q

on_good : (f : SurfaceRel → OrExpr → SurfaceJoin) (c : ℕ) → ((r : SurfaceRel) (e : OrExpr) → is_join_small (f r e) ≡ is_small e) → Good false join (on_plan f) (λ t b. Kept (is_join_small t) c b) c
on_good f c same = (λ k h p b P. P ∙ ap (λ v. some c && v) (sym (same p.0 p.1)), tt)

-- the parts of a query
outside : (r : Rule) (c : ℕ) → Good false r (plan r) (λ t b. Outside r t c b) c
outside exprs c = λ x b X t e T. T (some c) (all_first is_small x c b (left_small c (nodes_of x) b X))
outside (more_exprs xs) c = (λ k h x b X t e T z g. T z (all_more is_small xs x c b z g (left_small c (nodes_of x) b X)), λ z g. g)
outside item c = λ at. (λ k h. kept c, (λ k. kept c, λ x b X a e A. ap some A ∙ left_small c (nodes_of x) b X))
outside items c = λ x b X t e T. T (some c) (all_first is_item_small x c b X)
outside (more_items xs) c = (λ k h. (λ z g. g, (λ x b X t e T z g. T z (all_more is_item_small xs x c b z g X), λ z g. g)), λ z g. g)
outside alias c = (λ k h. (λ j f. refl, tt), (λ k h. refl, refl))
outside qualified c = (λ k h. (λ j f. (λ i l. refl, tt), refl), tt)
outside relation c = λ at q b Q a e A. A ∙ Q
outside relations c = λ at r b R t e T. T (some c) (kept_as R)
outside (more_joins at r xs) c = (λ x b X t e T z g. T z (all_more is_join_small xs x c b z g X), λ z g. g)
outside join c = λ at. (
  λ k h r b R. kept_as R,
  (
    λ k h. (λ j f r b R. kept_as R, tt),
    (
      λ k h. (λ j f. on_good (the_join.Left at) c (λ r e. refl), on_good (the_join.Left at) c (λ r e. refl)),
      (λ k h. on_good (the_join.Inner at) c (λ r e. refl), on_good (the_join.Inner at) c (λ r e. refl)),
    ),
  ),
)
outside joined c = λ r b R. (λ k h x e X. left_small b (nodes_of x) e X ∙ ap (λ v. some v && is_small x) R, tt)
outside source c = (λ k h f b F. F, kept c)
outside (condition w) c = (λ k h x b X. left_small c (nodes_of x) b X, kept c)
outside keys c = (λ k h. (λ j f xs b X. X, tt), kept c)
outside select c = λ at. (λ k h. (λ j f s b S. S, λ s b S. S), tt)
outside (selected at d) c = λ xs b X f e F w g W ks l K h m H.
    both_kept (list_all is_item_small xs) (is_from_small f && (is_some_small w && (list_all is_small ks && is_some_small h))) c b m X
    (both_kept (is_from_small f) (is_some_small w && (list_all is_small ks && is_some_small h)) b e m F
    (both_kept (is_some_small w) (list_all is_small ks && is_some_small h) e g m W (both_kept (list_all is_small ks) (is_some_small h) g l m K H)))
outside union c = λ at x b X t e T. T (some c) (all_first is_select_small x c b X)
outside (more_selects at xs) c = (λ k h. (λ j f x b X t e T z g. T z (all_more is_select_small xs x c b z g X), tt), λ z g. g)
outside cte c = λ at. (λ k h. (λ j f. (λ i l u b U. (λ n o. U, tt), tt), tt), tt)
outside cte_list c = λ x b X t e T. T (some c) (all_first is_cte_small x c b X)
outside (more_ctes xs) c = (λ k h x b X t e T z g. T z (all_more is_cte_small xs x c b z g X), λ z g. g)
outside ctes c = (λ k h xs b X. X, kept c)
outside query c = λ at cs b C u e U. (λ k h. both_kept (list_all is_cte_small cs) (is_union_small u) c b e C U, both_kept (list_all is_cte_small cs) (is_union_small u) c b e C U)
outside expr c = unasked false expr (plan expr) _ c (λ t b. tt)
outside (more_ors at xs) c = unasked false (more_ors at xs) (plan (more_ors at xs)) _ c (λ t b. tt)
outside conjunction c = unasked false conjunction (plan conjunction) _ c (λ t b. tt)
outside (more_ands at xs) c = unasked false (more_ands at xs) (plan (more_ands at xs)) _ c (λ t b. tt)
outside negation c = unasked false negation (plan negation) _ c (λ t b. tt)
outside pred c = unasked false pred (plan pred) _ c (λ t b. tt)
outside tested c = unasked false tested (plan tested) _ c (λ t b. tt)
outside (ranged g) c = unasked false (ranged g) (plan (ranged g)) _ c (λ t b. tt)
outside cat c = unasked false cat (plan cat) _ c (λ t b. tt)
outside (more_cats at xs) c = unasked false (more_cats at xs) (plan (more_cats at xs)) _ c (λ t b. tt)
outside a_sum c = unasked false a_sum (plan a_sum) _ c (λ t b. tt)
outside (more_sums at x xs) c = unasked false (more_sums at x xs) (plan (more_sums at x xs)) _ c (λ t b. tt)
outside product c = unasked false product (plan product) _ c (λ t b. tt)
outside (more_products at x xs) c = unasked false (more_products at x xs) (plan (more_products at x xs)) _ c (λ t b. tt)
outside signed c = unasked false signed (plan signed) _ c (λ t b. tt)
outside post c = unasked false post (plan post) _ c (λ t b. tt)
outside (more_casts at v ks) c = unasked false (more_casts at v ks) (plan (more_casts at v ks)) _ c (λ t b. tt)
outside value c = unasked false value (plan value) _ c (λ t b. tt)
outside (named at name) c = unasked false (named at name) (plan (named at name)) _ c (λ t b. tt)
outside group c = unasked false group (plan group) _ c (λ t b. tt)
outside case c = unasked false case (plan case) _ c (λ t b. tt)
outside cast c = unasked false cast (plan cast) _ c (λ t b. tt)
outside operand c = unasked false operand (plan operand) _ c (λ t b. tt)
outside arms c = unasked false arms (plan arms) _ c (λ t b. tt)
outside (more_arms xs) c = unasked false (more_arms xs) (plan (more_arms xs)) _ c (λ t b. tt)
outside arm c = unasked false arm (plan arm) _ c (λ t b. tt)
outside otherwise c = unasked false otherwise (plan otherwise) _ c (λ t b. tt)
outside (arguments f) c = unasked false (arguments f) (plan (arguments f)) _ c (λ t b. tt)

rules : Rules
rules true r c = within r c
rules false r c = outside r c

-- nothing is left behind a query exactly where an expression of it has too many nodes
pub counted_in_tree : {n : ℕ} {t : Surface} {s e : List Token} (d : Runs n query (plan query) t s e) → some (left_behind false d 4097) ≡ is_within t
counted_in_tree {t = t} d = holds rules false (λ t b. Kept (is_within t) 4097 b) 4097 d (outside query 4097)

-- some node is left, or none
pub none_left : {n left : ℕ} {t : Surface} {s e : List Token} → Reads false n query t s e 4097 left → left ≡ 0 → is_within t ≡ false
none_left d h = sym (counted_in_tree d.0) ∙ ap some (d.1 ∙ h)

pub some_left : {n left : ℕ} {t : Surface} {s e : List Token} → Reads false n query t s e 4097 left → 0 < left → is_within t ≡ true
some_left {left = left} d h = sym (counted_in_tree d.0) ∙ ap some d.1 ∙ either (leb_tells 1 left)
  where
    either : ((nat_le 1 left ≡ true) × (1 ≤ left)) ⊎ ((nat_le 1 left ≡ false) × (left < 1)) → some left ≡ true
    either (inl x) = x.0
    either (inr x) = absurd (omega (arith, h, x.1))

pub as_counted : {n left : ℕ} {t : Surface} {s e : List Token} → Reads false n query t s e 4097 left → (left ≡ 0 → is_within t ≡ false) × (is_within t ≡ false → left ≡ 0)
as_counted {left = left} {t = t} d = (none_left d, λ h. either (leb_tells 1 left) h)
  where
    either : ((nat_le 1 left ≡ true) × (1 ≤ left)) ⊎ ((nat_le 1 left ≡ false) × (left < 1)) → is_within t ≡ false → left ≡ 0
    either (inl x) h = let wrong : true ≡ false = sym x.0 ∙ sym (ap some d.1) ∙ counted_in_tree d.0 ∙ h in absurd cc
    either (inr x) h = omega (arith, x.1)
