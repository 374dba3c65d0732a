-- Each rule can be brought to an end, and so can what is left of it behind each of its steps.
use Rattle.std.proofs.Common.{◌≡◌, ℕ, ◌+◌, List, [], ◌∷◌, codes, Bool, true, false, Option, Some, None, refl, ap, sym, ◌∙◌, arith}
use Rattle.std.specs.Str.{bytes_eq}
use Rattle.mesh_query_tokens.specs.declared.tokens.Token.{Token}
use Rattle.mesh_query_tokens.specs.declared.tokens.TokenKind.{TokenKind}
use Rattle.mesh_query_tokens.specs.declared.tokens.TokenKind.TheVariants.{Ident, Number, Sign}
use Rattle.mesh_query_grammar.specs.declared.surface.signs.Function.{Function}
use Rattle.mesh_query_grammar.specs.declared.surface.signs.Function.TheVariants as the_function
use Rattle.mesh_query_grammar.specs.declared.surface.expressions.OrExpr.{OrExpr}
use Rattle.mesh_query_grammar.specs.declared.surface.expressions.AndExpr.{AndExpr}
use Rattle.mesh_query_grammar.specs.declared.surface.expressions.NotExpr.TheVariants as the_not
use Rattle.mesh_query_grammar.specs.declared.surface.expressions.Pred.{roll-Pred}
use Rattle.mesh_query_grammar.specs.declared.surface.expressions.Test.TheVariants as the_test
use Rattle.mesh_query_grammar.specs.declared.surface.expressions.MulExpr.{MulExpr}
use Rattle.mesh_query_grammar.specs.declared.surface.expressions.Unary.TheVariants as the_unary
use Rattle.mesh_query_grammar.specs.declared.surface.expressions.Primary.TheVariants as the_primary
use Rattle.mesh_query_grammar.specs.declared.surface.expressions.Arm.{roll-Arm}
use Rattle.mesh_query_grammar.specs.declared.surface.expressions.Args.TheVariants as the_args
use Rattle.mesh_query_grammar.specs.declared.surface.queries.SurfaceItem.TheVariants as the_item
use Rattle.mesh_query_grammar.specs.declared.surface.queries.SurfaceJoin.{SurfaceJoin}
use Rattle.mesh_query_grammar.specs.declared.surface.queries.SurfaceJoin.TheVariants as the_join
use Rattle.mesh_query_grammar.specs.declared.surface.queries.SurfaceRel.{SurfaceRel}
use Rattle.mesh_base_values.specs.declared.values.ColType.{ColType}
use Rattle.mesh_query_grammar.specs.declared.surface.expressions.NotExpr.{NotExpr}
use Rattle.mesh_query_grammar.specs.declared.surface.expressions.AddExpr.{AddExpr}
use Rattle.mesh_query_grammar.specs.declared.surface.expressions.AddStep.{AddStep}
use Rattle.mesh_query_grammar.specs.declared.surface.expressions.MulStep.{MulStep}
use Rattle.mesh_query_grammar.specs.declared.surface.expressions.Unary.{Unary}
use Rattle.mesh_query_grammar.specs.declared.surface.expressions.Primary.{Primary}
use Rattle.mesh_query_grammar.specs.declared.surface.expressions.Arm.{Arm}
use Rattle.mesh_query_grammar.specs.declared.surface.queries.SurfaceItem.{SurfaceItem}
use Rattle.mesh_query_grammar.specs.declared.surface.queries.SurfaceSelect.{SurfaceSelect}
use Rattle.mesh_query_grammar.specs.declared.surface.queries.SurfaceCte.{SurfaceCte}
use Rattle.mesh_query_grammar.specs.Words.{is_reserved, function_of}
use Rattle.mesh_query_grammar.specs.Signs.{place, IsQualified}
use Rattle.mesh_query_grammar.specs.Grammar as gram
use Rattle.mesh_query_grammar.specs.Grammar.{Spells}
use Rattle.mesh_query_grammar.specs.Rules.{Rule, Tree, expr, more_ors, conjunction, more_ands, negation, pred, tested, ranged, cat, more_cats, sum, more_sums, product, more_products, signed, post, more_casts, value, named, group, case, cast, operand, arms, more_arms, arm, otherwise, arguments, exprs, more_exprs, item, items, more_items, alias, qualified, relation, relations, more_joins, join, joined, source, condition, keys, select, selected, union, more_selects, cte, cte_list, more_ctes, ctes, query}
use Rattle.mesh_query_grammar.specs.Plans.{plan, done, read, said, amount, type_named, cmp_said, column_plan, named_plan, call_plan, arguments_plan, on_plan}
use Rattle.mesh_query_grammar.specs.Machine.{Runs, ends, rejects, reads, Reads}
use Rattle.mesh_query_grammar.proofs.Heads.{name_at, sign_at}
use Rattle.mesh_query_grammar.proofs.Scale.{kind_scale, scale}
use Rattle.mesh_query_grammar.proofs.Complete.{complete}
use Rattle.mesh_query_grammar.proofs.Runs.{Front, Notes, Says, says_done, says_accept, says_reject, says_see, says_miss, says_note, says_read, says_nest, Ending, Goes, All}

made : TokenKind → Token
made k = record { start = 0; end = 0; kind = k }

abbrev word : List ℕ → Token
word w = record { start = 0; end = 0; kind = Ident w }

abbrev sign : List ℕ → Token
sign w = record { start = 0; end = 0; kind = Sign w }

abbrev one : Token
one = record { start = 0; end = 0; kind = Number 1 }

abbrev Short : ℕ → (r : Rule) → Front → Type 0
Short n r u = (t : Tree r) × Says n r (plan r) t u

zeroed : (u : Front) → place (u []) ≡ 0 → Notes 0 u
zeroed u h k v g = sym h ∙ ap (λ (z : Front). place (z [])) g

abbrev single : Front
single x = one ∷ x

-- what was read ends the plan
abbrev Last : (r : Rule) → Type 0
Last r = (t : Tree r) → Ending (done t) × Goes (done t)

last : (r : Rule) → Last r
last r t = (λ n. (t, λ x. x, says_done), tt)

s_value : (n : ℕ) → Short n value single
s_value n = (the_primary.Number 0 1, says_note 0 (zeroed single refl) (says_miss (says_miss (says_miss (says_reject (says_accept one refl says_done))))))

s_post : (n : ℕ) → Short n post single
s_post n = (_, says_note 0 (zeroed single refl) (says_read (s_value n).1 (says_read (says_reject says_done) says_done)))

s_signed : (n : ℕ) → Short n signed single
s_signed n = (_, says_note 0 (zeroed single refl) (says_reject (says_read (s_post n).1 says_done)))

s_product : (n : ℕ) → Short n product single
s_product n = (_, says_note 0 (zeroed single refl) (says_read (s_signed n).1 (says_read (says_reject says_done) says_done)))

s_sum : (n : ℕ) → Short n sum single
s_sum n = (_, says_note 0 (zeroed single refl) (says_read (s_product n).1 (says_read (says_reject says_done) says_done)))

s_cat : (n : ℕ) → Short n cat single
s_cat n = (_, says_note 0 (zeroed single refl) (says_read (s_sum n).1 (says_read (says_reject says_done) says_done)))

s_tested : (n : ℕ) → Short n tested (λ x. x)
s_tested n = (_, says_reject (says_reject (says_miss (says_reject says_done))))

s_pred : (n : ℕ) → Short n pred single
s_pred n = (_, says_note 0 (zeroed single refl) (says_read (s_cat n).1 (says_read (s_tested n).1 says_done)))

s_negation : (n : ℕ) → Short n negation single
s_negation n = (_, says_note 0 (zeroed single refl) (says_reject (says_read (s_pred n).1 says_done)))

s_conjunction : (n : ℕ) → Short n conjunction single
s_conjunction n = (_, says_note 0 (zeroed single refl) (says_read (s_negation n).1 (says_read (says_reject says_done) says_done)))

s_expr : (n : ℕ) → Short n expr single
s_expr n = (_, says_note 0 (zeroed single refl) (says_read (s_conjunction n).1 (says_read (says_reject says_done) says_done)))

s_exprs : (n : ℕ) → Short n exprs single
s_exprs n = (_, says_read (s_expr n).1 (says_read (says_reject says_done) says_done))

s_ranged : (n : ℕ) (g : Bool) → Short n (ranged g) (λ x. word (codes "between") ∷ one ∷ word (codes "and") ∷ one ∷ x)
s_ranged n g = (_, says_accept (word (codes "between")) refl (says_read (s_cat n).1 (says_accept (word (codes "and")) refl (says_read (s_cat n).1 says_done))))

s_alias : (n : ℕ) → Short n alias (λ x. x)
s_alias n = (None, says_reject (says_reject says_done))

s_qualified : (n : ℕ) → Short n qualified (λ x. word (codes "a") ∷ x)
unfolding is_reserved
s_qualified n = (_, says_accept (word (codes "a")) refl (says_reject says_done))

s_relation : (n : ℕ) → Short n relation (λ x. word (codes "a") ∷ x)
s_relation n = (_, says_note 0 (zeroed (λ x. word (codes "a") ∷ x) refl) (says_read (s_qualified n).1 (says_read (s_alias n).1 says_done)))

s_relations : (n : ℕ) → Short n relations (λ x. word (codes "a") ∷ x)
s_relations n = (_, says_note 0 (zeroed (λ x. word (codes "a") ∷ x) refl) (says_read (s_relation n).1 (says_read (says_miss says_done) says_done)))

s_joined : (n : ℕ) → Short n joined (λ x. word (codes "a") ∷ word (codes "on") ∷ one ∷ x)
s_joined n = (_, says_read (s_relation n).1 (says_accept (word (codes "on")) refl (says_read (s_expr n).1 says_done)))

s_join : (n : ℕ) → Short n join (λ x. sign (codes ",") ∷ word (codes "a") ∷ x)
s_join n = (_, says_note 0 (zeroed (λ x. sign (codes ",") ∷ word (codes "a") ∷ x) refl) (says_accept (sign (codes ",")) refl (says_read (s_relation n).1 says_done)))

s_arm : (n : ℕ) → Short n arm (λ x. word (codes "when") ∷ one ∷ word (codes "then") ∷ one ∷ x)
s_arm n = (_, says_note 0 (zeroed (λ x. word (codes "when") ∷ one ∷ word (codes "then") ∷ one ∷ x) refl) (says_accept (word (codes "when")) refl (says_read (s_expr n).1 (says_accept (word (codes "then")) refl (says_read (s_expr n).1 says_done)))))

s_arms : (n : ℕ) → Short n arms (λ x. word (codes "when") ∷ one ∷ word (codes "then") ∷ one ∷ x)
s_arms n = (_, says_read (s_arm n).1 (says_read (says_miss says_done) says_done))

s_operand : (n : ℕ) → Short n operand (λ x. x)
s_operand n = (None, says_see says_done)

s_otherwise : (n : ℕ) → Short n otherwise (λ x. x)
s_otherwise n = (None, says_reject says_done)

s_item : (n : ℕ) → Short n item (λ x. sign (codes "*") ∷ x)
s_item n = (_, says_note 0 (zeroed (λ x. sign (codes "*") ∷ x) refl) (says_accept (sign (codes "*")) refl says_done))

s_items : (n : ℕ) → Short n items (λ x. sign (codes "*") ∷ x)
s_items n = (_, says_read (s_item n).1 (says_read (says_reject says_done) says_done))

s_source : (n : ℕ) → Short n source (λ x. x)
s_source n = (None, says_reject says_done)

s_condition : (n : ℕ) (w : List ℕ) → Short n (condition w) (λ x. x)
s_condition n w = (None, says_reject says_done)

s_keys : (n : ℕ) → Short n keys (λ x. x)
s_keys n = ([], says_reject says_done)

s_selected : (n at : ℕ) (d : Bool) → Short n (selected at d) (λ x. sign (codes "*") ∷ x)
s_selected n at d = (_, says_read (s_items n).1 (says_read (s_source n).1 (says_read (s_condition n (codes "where")).1 (says_read (s_keys n).1 (says_read (s_condition n (codes "having")).1 says_done)))))

s_select : (n : ℕ) → Short n select (λ x. word (codes "select") ∷ sign (codes "*") ∷ x)
s_select n = (_, says_note 0 (zeroed (λ x. word (codes "select") ∷ sign (codes "*") ∷ x) refl) (says_accept (word (codes "select")) refl (says_reject (says_read (s_selected n 0 false).1 says_done))))

s_union : (n : ℕ) → Short n union (λ x. word (codes "select") ∷ sign (codes "*") ∷ x)
s_union n = (_, says_note 0 (zeroed (λ x. word (codes "select") ∷ sign (codes "*") ∷ x) refl) (says_read (s_select n).1 (says_read (says_reject says_done) says_done)))

abbrev cte_front : Front
cte_front x = word (codes "a") ∷ word (codes "as") ∷ sign (codes "(") ∷ word (codes "select") ∷ sign (codes "*") ∷ sign (codes ")") ∷ x

s_cte : (n : ℕ) → Short (n + 1) cte cte_front
unfolding is_reserved
s_cte n = (_, says_note 0 (zeroed cte_front refl) (says_accept (word (codes "a")) refl (says_accept (word (codes "as")) refl (says_accept (sign (codes "(")) refl (says_nest refl (s_union n).1 (says_accept (sign (codes ")")) refl says_done))))))

s_ctes : (n : ℕ) → Short n ctes (λ x. x)
s_ctes n = ([], says_reject says_done)

-- a rule and what is left of it
abbrev Lives : Rule → Type 0
Lives r = Ending (plan r) × Goes (plan r)

g_expr : Lives expr
g_expr = (λ n. (_, _, (s_expr (n + 1)).1), λ at x. (λ n. (_, _, says_read (says_reject says_done) says_done), last expr))

g_more_ors : (at : ℕ) (xs : List AndExpr) → Lives (more_ors at xs)
g_more_ors at xs = (
  λ n. (_, _, says_reject says_done),
  (λ k h. (λ n. (_, _, says_read (s_conjunction (n + 1)).1 (says_read (says_reject says_done) says_done)), λ x. (λ n. (_, _, says_read (says_reject says_done) says_done), last (more_ors at xs))), tt),
)

g_conjunction : Lives conjunction
g_conjunction = (λ n. (_, _, (s_conjunction (n + 1)).1), λ at x. (λ n. (_, _, says_read (says_reject says_done) says_done), last conjunction))

g_more_ands : (at : ℕ) (xs : List NotExpr) → Lives (more_ands at xs)
g_more_ands at xs = (
  λ n. (_, _, says_reject says_done),
  (λ k h. (λ n. (_, _, says_read (s_negation (n + 1)).1 (says_read (says_reject says_done) says_done)), λ x. (λ n. (_, _, says_read (says_reject says_done) says_done), last (more_ands at xs))), tt),
)

g_negation : Lives negation
g_negation = (
  λ n. (_, _, (s_negation (n + 1)).1),
  λ at. (λ k h. (λ n. (_, _, says_nest refl (s_negation n).1 says_done), λ x. last negation (the_not.Not at x)), λ p. last negation (the_not.Plain at p)),
)

g_pred : Lives pred
g_pred = (λ n. (_, _, (s_pred (n + 1)).1), λ at l. (λ n. (_, _, says_read (s_tested (n + 1)).1 says_done), λ t. last pred (roll-Pred (record { at = at; left = l; test = t }))))

g_tested : Lives tested
g_tested = (
  λ n. (_, _, (s_tested (n + 1)).1),
  (
    λ k h. (
      λ n. (_, _, says_reject (says_accept (word (codes "null")) refl says_done)),
      (
        λ j i. (λ n. (_, _, says_accept (word (codes "null")) refl says_done), (λ l m. last tested (the_test.IsNull true), tt)),
        (λ j i. last tested (the_test.IsNull false), tt),
      ),
    ),
    (
      λ k h. (λ n. (_, _, says_read (s_ranged (n + 1) true).1 says_done), last tested),
      (last tested, (λ k h. (λ n. (_, _, says_read (s_cat (n + 1)).1 says_done), λ r. last tested (the_test.Compare (cmp_said (said k)) r)), tt)),
    ),
  ),
)

g_ranged : (g : Bool) → Lives (ranged g)
g_ranged g = (
  λ n. (_, _, (s_ranged (n + 1) g).1),
  (
    λ k h. (
      λ n. (_, _, says_read (s_cat (n + 1)).1 (says_accept (word (codes "and")) refl (says_read (s_cat (n + 1)).1 says_done))),
      λ a. (
        λ n. (_, _, says_accept (word (codes "and")) refl (says_read (s_cat (n + 1)).1 says_done)),
        (λ j i. (λ n. (_, _, says_read (s_cat (n + 1)).1 says_done), λ b. last (ranged g) (the_test.Between g a b)), tt),
      ),
    ),
    (
      λ k h. (
        λ n. (_, _, says_accept (sign (codes "(")) refl (says_nest refl (s_exprs n).1 (says_accept (sign (codes ")")) refl says_done))),
        (
          λ j i. (
            λ n. (_, _, says_nest refl (s_exprs n).1 (says_accept (sign (codes ")")) refl says_done)),
            λ xs. (λ n. (_, _, says_accept (sign (codes ")")) refl says_done), (λ l m. last (ranged g) (the_test.OneOf g xs), tt)),
          ),
          tt,
        ),
      ),
      tt,
    ),
  ),
)

g_cat : Lives cat
g_cat = (λ n. (_, _, (s_cat (n + 1)).1), λ at x. (λ n. (_, _, says_read (says_reject says_done) says_done), last cat))

g_more_cats : (at : ℕ) (xs : List AddExpr) → Lives (more_cats at xs)
g_more_cats at xs = (
  λ n. (_, _, says_reject says_done),
  (λ k h. (λ n. (_, _, says_read (s_sum (n + 1)).1 (says_read (says_reject says_done) says_done)), λ x. (λ n. (_, _, says_read (says_reject says_done) says_done), last (more_cats at xs))), tt),
)

g_sum : Lives sum
g_sum = (λ n. (_, _, (s_sum (n + 1)).1), λ at x. (λ n. (_, _, says_read (says_reject says_done) says_done), last sum))

g_more_sums : (at : ℕ) (x : MulExpr) (xs : List AddStep) → Lives (more_sums at x xs)
g_more_sums at x xs = (
  λ n. (_, _, says_reject says_done),
  (λ k h. (λ n. (_, _, says_read (s_product (n + 1)).1 (says_read (says_reject says_done) says_done)), λ y. (λ n. (_, _, says_read (says_reject says_done) says_done), last (more_sums at x xs))), tt),
)

g_product : Lives product
g_product = (λ n. (_, _, (s_product (n + 1)).1), λ at x. (λ n. (_, _, says_read (says_reject says_done) says_done), last product))

g_more_products : (at : ℕ) (x : Unary) (xs : List MulStep) → Lives (more_products at x xs)
g_more_products at x xs = (
  λ n. (_, _, says_reject says_done),
  (λ k h. (λ n. (_, _, says_read (s_signed (n + 1)).1 (says_read (says_reject says_done) says_done)), λ y. (λ n. (_, _, says_read (says_reject says_done) says_done), last (more_products at x xs))), tt),
)

g_signed : Lives signed
g_signed = (
  λ n. (_, _, (s_signed (n + 1)).1),
  λ at. (λ k h. (λ n. (_, _, says_nest refl (s_signed n).1 says_done), λ x. last signed (the_unary.Minus at x)), λ p. last signed (the_unary.Plain at p)),
)

g_post : Lives post
g_post = (λ n. (_, _, (s_post (n + 1)).1), λ at x. (λ n. (_, _, says_read (says_reject says_done) says_done), last post))

g_more_casts : (at : ℕ) (v : Primary) (ks : List ColType) → Lives (more_casts at v ks)
g_more_casts at v ks = (
  λ n. (_, _, says_reject says_done),
  (λ k h. (λ n. (_, _, says_accept (word (codes "int")) refl (says_read (says_reject says_done) says_done)), (λ j i. (λ n. (_, _, says_read (says_reject says_done) says_done), last (more_casts at v ks)), tt)), tt),
)

-- behind a name nothing need stand
named_says : (n at : ℕ) (name : List ℕ) (b : Bool) → Says n (named at name) (named_plan at name b) (the_primary.Column at None name) (λ x. x)
named_says n at name true = says_miss (says_miss (says_reject says_done))
named_says n at name false = says_miss (says_reject says_done)

named_ends : (at : ℕ) (name : List ℕ) (n : ℕ) → (t : Tree (named at name)) × (u : Front) × Says n (named at name) (plan (named at name)) t u
named_ends at name n = (_, _, named_says n at name (bytes_eq name (codes "date")))

named_ending : (at : ℕ) (name : List ℕ) → Ending (plan (named at name))
named_ending at name n = (_, _, named_says (n + 1) at name (bytes_eq name (codes "date")))

arguments_ends : (f : Function) (n : ℕ) → (t : Tree (arguments f)) × (u : Front) × Says n (arguments f) (arguments_plan f) t u
arguments_ends the_function.Count n = (_, _, says_note 0 (zeroed single refl) (says_reject (says_reject (says_read (s_expr n).1 says_done))))
arguments_ends the_function.Nullif n =
    (_, _, says_note 0 (zeroed (λ x. one ∷ sign (codes ",") ∷ one ∷ x) refl) (says_read (s_expr n).1 (says_accept (sign (codes ",")) refl (says_read (s_expr n).1 says_done))))
arguments_ends the_function.Coalesce n = (_, _, says_note 0 (zeroed single refl) (says_read (s_exprs n).1 says_done))
arguments_ends _ n = (_, _, says_note 0 (zeroed single refl) (says_read (s_expr n).1 says_done))

arguments_goes : (f : Function) → Goes (arguments_plan f)
arguments_goes the_function.Count = λ at. (
  λ k h. last (arguments the_function.Count) (the_args.Star at),
  (λ k h. (λ n. (_, _, says_read (s_expr (n + 1)).1 says_done), λ x. last (arguments the_function.Count) (the_args.Distinct at x)), λ x. last (arguments the_function.Count) (the_args.List at (x ∷ []))),
)
arguments_goes the_function.Nullif = λ at x. (
  λ n. (_, _, says_accept (sign (codes ",")) refl (says_read (s_expr (n + 1)).1 says_done)),
  (λ k h. (λ n. (_, _, says_read (s_expr (n + 1)).1 says_done), λ y. last (arguments the_function.Nullif) (the_args.List at (x ∷ y ∷ []))), tt),
)
arguments_goes the_function.Coalesce = λ at xs. last (arguments the_function.Coalesce) (the_args.List at xs)
arguments_goes f = λ at x. last (arguments f) (the_args.List at (x ∷ []))

call_goes : (at : ℕ) (name : List ℕ) (o : Option Function) → Goes (call_plan at name o)
call_goes at name None = tt
call_goes at name (Some f) = (
  λ k h. (
    λ n. (_, _, says_nest refl (arguments_ends f n).2 (says_accept (sign (codes ")")) refl says_done)),
    λ a. (λ n. (_, _, says_accept (sign (codes ")")) refl says_done), (λ j i. last (named at name) (the_primary.Call at f a), tt)),
  ),
  tt,
)

column_goes : (at : ℕ) (name : List ℕ) → Goes (column_plan at name)
unfolding is_reserved
column_goes at name = (
  call_goes at name (function_of name),
  (λ k h. (λ n. (_, _, says_accept (word (codes "a")) refl says_done), (λ j i. last (named at name) (the_primary.Column at (Some name) (said j)), tt)), tt),
)

named_goes : (at : ℕ) (name : List ℕ) (b : Bool) → Goes (named_plan at name b)
named_goes at name true = (λ d. last (named at name) (the_primary.Date at d), column_goes at name)
named_goes at name false = column_goes at name

g_value : Lives value
g_value = (
  λ n. (_, _, (s_value (n + 1)).1),
  λ at. (
    last value,
    (
      last value,
      (
        last value,
        (
          λ k h. (λ n. (_, _, says_read (named_ends at (said k) (n + 1)).2 says_done), last value),
          (
            λ k h. last value (the_primary.Number at (amount k)),
            (
              λ k h. last value (the_primary.Text at (said k)),
              (
                λ k h. last value (the_primary.Macro at (said k)),
                (
                  λ k h. last value (the_primary.Truth at true),
                  (
                    λ k h. last value (the_primary.Truth at false),
                    (
                      λ k h. last value (the_primary.Null at),
                      tt,
                    ),
                  ),
                ),
              ),
            ),
          ),
        ),
      ),
    ),
  ),
)

g_named : (at : ℕ) (name : List ℕ) → Lives (named at name)
g_named at name = (named_ending at name, named_goes at name (bytes_eq name (codes "date")))

g_group : Lives group
g_group = (
  λ n. (_, _, says_note 0 (zeroed (λ x. sign (codes "(") ∷ one ∷ sign (codes ")") ∷ x) refl) (says_accept (sign (codes "(")) refl (says_nest refl (s_expr n).1 (says_accept (sign (codes ")")) refl says_done)))),
  λ at. (
    λ k h. (λ n. (_, _, says_nest refl (s_expr n).1 (says_accept (sign (codes ")")) refl says_done)), λ x. (λ n. (_, _, says_accept (sign (codes ")")) refl says_done), (λ j i. last group (the_primary.Group at x), tt))),
    tt,
  ),
)

abbrev case_front : Front
case_front x = word (codes "case") ∷ word (codes "when") ∷ one ∷ word (codes "then") ∷ one ∷ word (codes "end") ∷ x

g_case : Lives case
g_case = (
  λ n. (_, _, says_note 0 (zeroed case_front refl) (says_accept (word (codes "case")) refl (says_nest refl (s_operand n).1 (says_nest refl (s_arms n).1 (says_nest refl (s_otherwise n).1 (says_accept (word (codes "end")) refl says_done)))))),
  λ at. (
    λ k h. (
      λ n. (_, _, says_nest refl (s_operand n).1 (says_nest refl (s_arms n).1 (says_nest refl (s_otherwise n).1 (says_accept (word (codes "end")) refl says_done)))),
      λ o. (
        λ n. (_, _, says_nest refl (s_arms n).1 (says_nest refl (s_otherwise n).1 (says_accept (word (codes "end")) refl says_done))),
        λ xs. (
          λ n. (_, _, says_nest refl (s_otherwise n).1 (says_accept (word (codes "end")) refl says_done)),
          λ e. (λ n. (_, _, says_accept (word (codes "end")) refl says_done), (λ j i. last case (the_primary.Case at o xs e), tt)),
        ),
      ),
    ),
    tt,
  ),
)

abbrev cast_front : Front
cast_front x = word (codes "cast") ∷ sign (codes "(") ∷ one ∷ word (codes "as") ∷ word (codes "int") ∷ sign (codes ")") ∷ x

g_cast : Lives cast
g_cast = (
  λ n. (_, _, says_note 0 (zeroed cast_front refl) (says_accept (word (codes "cast")) refl (says_accept (sign (codes "(")) refl (says_nest refl (s_expr n).1 (says_accept (word (codes "as")) refl (says_accept (word (codes "int")) refl (says_accept (sign (codes ")")) refl says_done))))))),
  λ at. (
    λ k h. (
      λ n. (_, _, says_accept (sign (codes "(")) refl (says_nest refl (s_expr n).1 (says_accept (word (codes "as")) refl (says_accept (word (codes "int")) refl (says_accept (sign (codes ")")) refl says_done))))),
      (
        λ j i. (
          λ n. (_, _, says_nest refl (s_expr n).1 (says_accept (word (codes "as")) refl (says_accept (word (codes "int")) refl (says_accept (sign (codes ")")) refl says_done)))),
          λ x. (
            λ n. (_, _, says_accept (word (codes "as")) refl (says_accept (word (codes "int")) refl (says_accept (sign (codes ")")) refl says_done))),
            (
              λ l m. (
                λ n. (_, _, says_accept (word (codes "int")) refl (says_accept (sign (codes ")")) refl says_done)),
                (
                  λ a b. (λ n. (_, _, says_accept (sign (codes ")")) refl says_done), (λ c d. last cast (the_primary.Cast at x (type_named a)), tt)),
                  tt,
                ),
              ),
              tt,
            ),
          ),
        ),
        tt,
      ),
    ),
    tt,
  ),
)

g_operand : Lives operand
g_operand = (λ n. (_, _, (s_operand (n + 1)).1), (tt, λ x. last operand (Some x)))

g_arms : Lives arms
g_arms = (λ n. (_, _, (s_arms (n + 1)).1), λ x. (λ n. (_, _, says_read (says_miss says_done) says_done), last arms))

g_more_arms : (xs : List Arm) → Lives (more_arms xs)
g_more_arms xs = (λ n. (_, _, says_miss says_done), (λ x. (λ n. (_, _, says_read (says_miss says_done) says_done), last (more_arms xs)), tt))

g_arm : Lives arm
g_arm = (
  λ n. (_, _, (s_arm (n + 1)).1),
  λ at. (
    λ k h. (
      λ n. (_, _, says_read (s_expr (n + 1)).1 (says_accept (word (codes "then")) refl (says_read (s_expr (n + 1)).1 says_done))),
      λ t. (
        λ n. (_, _, says_accept (word (codes "then")) refl (says_read (s_expr (n + 1)).1 says_done)),
        (λ j i. (λ n. (_, _, says_read (s_expr (n + 1)).1 says_done), λ v. last arm (roll-Arm (record { at = at; test = t; value = v }))), tt),
      ),
    ),
    tt,
  ),
)

g_otherwise : Lives otherwise
g_otherwise = (λ n. (_, _, (s_otherwise (n + 1)).1), (λ k h. (λ n. (_, _, says_read (s_expr (n + 1)).1 says_done), λ x. last otherwise (Some x)), tt))

g_exprs : Lives exprs
g_exprs = (λ n. (_, _, (s_exprs (n + 1)).1), λ x. (λ n. (_, _, says_read (says_reject says_done) says_done), last exprs))

g_more_exprs : (xs : List OrExpr) → Lives (more_exprs xs)
g_more_exprs xs = (
  λ n. (_, _, says_reject says_done),
  (λ k h. (λ n. (_, _, says_read (s_expr (n + 1)).1 (says_read (says_reject says_done) says_done)), λ x. (λ n. (_, _, says_read (says_reject says_done) says_done), last (more_exprs xs))), tt),
)

g_items : Lives items
g_items = (λ n. (_, _, (s_items (n + 1)).1), λ x. (λ n. (_, _, says_read (says_reject says_done) says_done), last items))

g_more_items : (xs : List SurfaceItem) → Lives (more_items xs)
g_more_items xs = (
  λ n. (_, _, says_reject says_done),
  (λ k h. (λ n. (_, _, says_see says_done), (tt, (λ x. (λ n. (_, _, says_read (says_reject says_done) says_done), last (more_items xs)), tt))), tt),
)

g_alias : Lives alias
unfolding is_reserved
g_alias = (
  λ n. (_, _, (s_alias (n + 1)).1),
  (
    λ k h. (λ n. (_, _, says_accept (word (codes "a")) refl says_done), (λ j i. last alias (Some (said j)), tt)),
    (λ k h. last alias (Some (said k)), tt),
  ),
)

g_qualified : Lives qualified
unfolding is_reserved
g_qualified = (
  λ n. (_, _, (s_qualified (n + 1)).1),
  (
    λ k h. (λ n. (_, _, says_reject says_done), (λ j i. (λ n. (_, _, says_accept (word (codes "a")) refl says_done), (λ l m. last qualified (Some (said k), said l), tt)), tt)),
    tt,
  ),
)

g_relation : Lives relation
g_relation = (
  λ n. (_, _, (s_relation (n + 1)).1),
  λ at q. (λ n. (_, _, says_read (s_alias (n + 1)).1 says_done), λ a. last relation (record { at = at; schema = q.0; name = q.1; alias = a })),
)

g_relations : Lives relations
g_relations = (λ n. (_, _, (s_relations (n + 1)).1), λ at r. (λ n. (_, _, says_read (says_miss says_done) says_done), last relations))

g_more_joins : (at : ℕ) (r : SurfaceRel) (xs : List SurfaceJoin) → Lives (more_joins at r xs)
g_more_joins at r xs = (λ n. (_, _, says_miss says_done), (λ x. (λ n. (_, _, says_read (says_miss says_done) says_done), last (more_joins at r xs)), tt))

on_ends : (f : SurfaceRel → OrExpr → SurfaceJoin) → Ending (on_plan f)
on_ends f n = (_, _, says_accept (word (codes "join")) refl (says_read (s_joined (n + 1)).1 says_done))

on_goes : (f : SurfaceRel → OrExpr → SurfaceJoin) → Goes (on_plan f)
on_goes f = (λ k h. (λ n. (_, _, says_read (s_joined (n + 1)).1 says_done), λ p. last join (f p.0 p.1)), tt)

g_join : Lives join
g_join = (
  λ n. (_, _, (s_join (n + 1)).1),
  λ at. (
    λ k h. (λ n. (_, _, says_read (s_relation (n + 1)).1 says_done), λ r. last join (the_join.Comma at r)),
    (
      λ k h. (λ n. (_, _, says_accept (word (codes "join")) refl (says_read (s_relation (n + 1)).1 says_done)), (λ j i. (λ n. (_, _, says_read (s_relation (n + 1)).1 says_done), λ r. last join (the_join.Cross at r)), tt)),
      (
        λ k h. (λ n. (_, _, says_reject (on_ends (the_join.Left at) n).2), (λ j i. (on_ends (the_join.Left at), on_goes (the_join.Left at)), on_goes (the_join.Left at))),
        (λ k h. (on_ends (the_join.Inner at), on_goes (the_join.Inner at)), on_goes (the_join.Inner at)),
      ),
    ),
  ),
)

g_joined : Lives joined
g_joined = (
  λ n. (_, _, (s_joined (n + 1)).1),
  λ r. (λ n. (_, _, says_accept (word (codes "on")) refl (says_read (s_expr (n + 1)).1 says_done)), (λ k h. (λ n. (_, _, says_read (s_expr (n + 1)).1 says_done), λ x. last joined (r, x)), tt)),
)

g_source : Lives source
g_source = (λ n. (_, _, (s_source (n + 1)).1), (λ k h. (λ n. (_, _, says_read (s_relations (n + 1)).1 says_done), λ f. last source (Some f)), tt))

g_condition : (w : List ℕ) → Lives (condition w)
g_condition w = (λ n. (_, _, (s_condition (n + 1) w).1), (λ k h. (λ n. (_, _, says_read (s_expr (n + 1)).1 says_done), λ x. last (condition w) (Some x)), tt))

g_keys : Lives keys
g_keys = (
  λ n. (_, _, (s_keys (n + 1)).1),
  (λ k h. (λ n. (_, _, says_accept (word (codes "by")) refl (says_read (s_exprs (n + 1)).1 says_done)), (λ j i. (λ n. (_, _, says_read (s_exprs (n + 1)).1 says_done), last keys), tt)), tt),
)

g_select : Lives select
g_select = (
  λ n. (_, _, (s_select (n + 1)).1),
  λ at. (
    λ k h. (λ n. (_, _, says_reject (says_read (s_selected (n + 1) at false).1 says_done)), (λ j i. (λ n. (_, _, says_read (s_selected (n + 1) at true).1 says_done), last select), last select)),
    tt,
  ),
)

g_selected : (at : ℕ) (d : Bool) → Lives (selected at d)
g_selected at d = (
  λ n. (_, _, (s_selected (n + 1) at d).1),
  λ xs. (
    λ n. (_, _, says_read (s_source (n + 1)).1 (says_read (s_condition (n + 1) (codes "where")).1 (says_read (s_keys (n + 1)).1 (says_read (s_condition (n + 1) (codes "having")).1 says_done)))),
    λ f. (
      λ n. (_, _, says_read (s_condition (n + 1) (codes "where")).1 (says_read (s_keys (n + 1)).1 (says_read (s_condition (n + 1) (codes "having")).1 says_done))),
      λ w. (
        λ n. (_, _, says_read (s_keys (n + 1)).1 (says_read (s_condition (n + 1) (codes "having")).1 says_done)),
        λ ks. (
          λ n. (_, _, says_read (s_condition (n + 1) (codes "having")).1 says_done),
          λ h. last (selected at d) (record { at = at; distinct = d; items = xs; from = f; filter = w; keys = ks; having = h }),
        ),
      ),
    ),
  ),
)

g_union : Lives union
g_union = (λ n. (_, _, (s_union (n + 1)).1), λ at x. (λ n. (_, _, says_read (says_reject says_done) says_done), last union))

g_more_selects : (at : ℕ) (xs : List SurfaceSelect) → Lives (more_selects at xs)
g_more_selects at xs = (
  λ n. (_, _, says_reject says_done),
  (
    λ k h. (
      λ n. (_, _, says_accept (word (codes "all")) refl (says_read (s_select (n + 1)).1 (says_read (says_reject says_done) says_done))),
      (λ j i. (λ n. (_, _, says_read (s_select (n + 1)).1 (says_read (says_reject says_done) says_done)), λ x. (λ n. (_, _, says_read (says_reject says_done) says_done), last (more_selects at xs))), tt),
    ),
    tt,
  ),
)

g_cte : Lives cte
g_cte = (
  λ n. (_, _, (s_cte n).1),
  λ at. (
    λ k h. (
      λ n. (_, _, says_accept (word (codes "as")) refl (says_accept (sign (codes "(")) refl (says_nest refl (s_union n).1 (says_accept (sign (codes ")")) refl says_done)))),
      (
        λ j i. (
          λ n. (_, _, says_accept (sign (codes "(")) refl (says_nest refl (s_union n).1 (says_accept (sign (codes ")")) refl says_done))),
          (
            λ l m. (
              λ n. (_, _, says_nest refl (s_union n).1 (says_accept (sign (codes ")")) refl says_done)),
              λ u. (λ n. (_, _, says_accept (sign (codes ")")) refl says_done), (λ a b. last cte (record { at = at; name = said k; body = u }), tt)),
            ),
            tt,
          ),
        ),
        tt,
      ),
    ),
    tt,
  ),
)

g_cte_list : Lives cte_list
g_cte_list = (λ n. (_, _, says_read (s_cte n).1 (says_read (says_reject says_done) says_done)), λ x. (λ n. (_, _, says_read (says_reject says_done) says_done), last cte_list))

g_more_ctes : (xs : List SurfaceCte) → Lives (more_ctes xs)
g_more_ctes xs = (
  λ n. (_, _, says_reject says_done),
  (λ k h. (λ n. (_, _, says_read (s_cte n).1 (says_read (says_reject says_done) says_done)), λ x. (λ n. (_, _, says_read (says_reject says_done) says_done), last (more_ctes xs))), tt),
)

g_ctes : Lives ctes
g_ctes = (λ n. (_, _, (s_ctes (n + 1)).1), (λ k h. (λ n. (_, _, says_read (says_read (s_cte n).1 (says_read (says_reject says_done) says_done)) says_done), last ctes), tt))

g_query : Lives query
g_query = (
  λ n. (_, _, says_note 0 (zeroed (λ x. word (codes "select") ∷ sign (codes "*") ∷ x) refl) (says_read (s_ctes (n + 1)).1 (says_read (s_union (n + 1)).1 (says_reject says_done)))),
  λ at cs. (
    λ n. (_, _, says_read (s_union (n + 1)).1 (says_reject says_done)),
    λ u. (λ n. (_, _, says_reject says_done), (λ k h. last query (record { at = at; ctes = cs; body = u }), tt)),
  ),
)

-- a column by its own name, or behind another name
column_spelled : (n : ℕ) (of : Option (List ℕ)) (x : List ℕ) {s e : List Token} → IsQualified of x s e → (t : OrExpr) × Spells n (gram.expr t) s e
column_spelled n of x q =
    (_, gram.ors (gram.one_or (gram.ands (gram.one_and (gram.plain (gram.asked (gram.cats (gram.one_cat (gram.sums (gram.one_sum (gram.products (gram.one_product (gram.unsigned (gram.posts (gram.no_cast (gram.column {of = of} {name = x} q)))))))))) gram.nothing))))))

column_item : (n at : ℕ) (t : OrExpr) (s : List Token) → Reads n expr t s [] → Runs n item (read expr (λ x. read alias (λ a. done (the_item.Value at x a)))) (the_item.Value at t None) s []
column_item n at t s d = reads d (reads (rejects refl (rejects refl ends)) ends)

g_item : Lives item
unfolding kind_scale scale
g_item = (
  λ n. (_, _, (s_item (n + 1)).1),
  λ at. (
    λ k h. last item (the_item.All at),
    (
      λ k h. last item (the_item.AllOf at (said k)),
      λ x. (λ n. (_, _, says_read (s_alias (n + 1)).1 says_done), λ a. last item (the_item.Value at x a)),
      λ n k c h g. (
        (_, column_item n at _ (k ∷ []) (complete (column_spelled n None (said k) (name_at k h [])).1 (omega arith)).1),
        (_, column_item n at _ (k ∷ c ∷ k ∷ []) (complete (column_spelled n (Some (said k)) (said k) (c ∷ k ∷ [], k ∷ [], name_at k h (c ∷ k ∷ []), sign_at (codes ".") c g (k ∷ []), name_at k h [])).1 (omega arith)).1),
      ),
    ),
  ),
)

pub all : All
all expr = g_expr
all (more_ors at xs) = g_more_ors at xs
all conjunction = g_conjunction
all (more_ands at xs) = g_more_ands at xs
all negation = g_negation
all pred = g_pred
all tested = g_tested
all (ranged g) = g_ranged g
all cat = g_cat
all (more_cats at xs) = g_more_cats at xs
all sum = g_sum
all (more_sums at x xs) = g_more_sums at x xs
all product = g_product
all (more_products at x xs) = g_more_products at x xs
all signed = g_signed
all post = g_post
all (more_casts at v ks) = g_more_casts at v ks
all value = g_value
all (named at name) = g_named at name
all group = g_group
all case = g_case
all cast = g_cast
all operand = g_operand
all arms = g_arms
all (more_arms xs) = g_more_arms xs
all arm = g_arm
all otherwise = g_otherwise
all (arguments f) = (λ n. arguments_ends f (n + 1), arguments_goes f)
all exprs = g_exprs
all (more_exprs xs) = g_more_exprs xs
all item = g_item
all items = g_items
all (more_items xs) = g_more_items xs
all alias = g_alias
all qualified = g_qualified
all relation = g_relation
all relations = g_relations
all (more_joins at r xs) = g_more_joins at r xs
all join = g_join
all joined = g_joined
all source = g_source
all (condition w) = g_condition w
all keys = g_keys
all select = g_select
all (selected at d) = g_selected at d
all union = g_union
all (more_selects at xs) = g_more_selects at xs
all cte = g_cte
all cte_list = g_cte_list
all (more_ctes xs) = g_more_ctes xs
all ctes = g_ctes
all query = g_query
