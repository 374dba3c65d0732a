-- What is done at the next token, for each rule.
use Rattle.std.specs.Prelude.{ℕ, ℤ, List, [], ◌∷◌, ◌++◌, codes, Bool, true, false, ◌||◌, Option, Some, None, if◌then◌else◌}
use Rattle.std.specs.Str.{bytes_eq}
use Rattle.mesh_base_values.specs.declared.values.ColType.{ColType}
use Rattle.mesh_base_values.specs.declared.values.ColType.TheVariants as column
use Rattle.mesh_query_tokens.specs.declared.tokens.Token.{Token}
use Rattle.mesh_query_tokens.specs.declared.tokens.TokenKind.{TokenKind}
use Rattle.mesh_query_tokens.specs.declared.tokens.TokenKind.TheVariants.{Ident, Number, Text, Macro, Sign}
use Rattle.mesh_query_grammar.specs.declared.surface.signs.Cmp.{Cmp}
use Rattle.mesh_query_grammar.specs.declared.surface.signs.Cmp.TheVariants as cmp
use Rattle.mesh_query_grammar.specs.declared.surface.signs.AddSign.{AddSign}
use Rattle.mesh_query_grammar.specs.declared.surface.signs.AddSign.TheVariants as add
use Rattle.mesh_query_grammar.specs.declared.surface.signs.MulSign.{MulSign}
use Rattle.mesh_query_grammar.specs.declared.surface.signs.MulSign.TheVariants as mul
use Rattle.mesh_query_grammar.specs.declared.surface.signs.Function.{Function}
use Rattle.mesh_query_grammar.specs.declared.surface.signs.Function.TheVariants as the_function
use Rattle.mesh_query_grammar.specs.declared.surface.expressions.OrExpr.{OrExpr, roll-OrExpr}
use Rattle.mesh_query_grammar.specs.declared.surface.expressions.AndExpr.{roll-AndExpr}
use Rattle.mesh_query_grammar.specs.declared.surface.expressions.NotExpr.TheVariants as the_not
use Rattle.mesh_query_grammar.specs.declared.surface.expressions.Pred.{roll-Pred}
use Rattle.mesh_query_grammar.specs.declared.surface.expressions.Test.TheVariants as the_test
use Rattle.mesh_query_grammar.specs.declared.surface.expressions.CatExpr.{roll-CatExpr}
use Rattle.mesh_query_grammar.specs.declared.surface.expressions.AddExpr.{roll-AddExpr}
use Rattle.mesh_query_grammar.specs.declared.surface.expressions.AddStep.{roll-AddStep}
use Rattle.mesh_query_grammar.specs.declared.surface.expressions.MulExpr.{roll-MulExpr}
use Rattle.mesh_query_grammar.specs.declared.surface.expressions.MulStep.{roll-MulStep}
use Rattle.mesh_query_grammar.specs.declared.surface.expressions.Unary.TheVariants as the_unary
use Rattle.mesh_query_grammar.specs.declared.surface.expressions.Post.{roll-Post}
use Rattle.mesh_query_grammar.specs.declared.surface.expressions.Primary.TheVariants as the_primary
use Rattle.mesh_query_grammar.specs.declared.surface.expressions.Arm.{roll-Arm}
use Rattle.mesh_query_grammar.specs.declared.surface.expressions.Args.TheVariants as the_args
use Rattle.mesh_query_grammar.specs.declared.surface.queries.SurfaceItem.TheVariants as the_item
use Rattle.mesh_query_grammar.specs.declared.surface.queries.SurfaceJoin.{SurfaceJoin}
use Rattle.mesh_query_grammar.specs.declared.surface.queries.SurfaceJoin.TheVariants as the_join
use Rattle.mesh_query_grammar.specs.declared.surface.queries.SurfaceRel.{SurfaceRel}
use Rattle.mesh_query_grammar.specs.Words.{is_reserved, type_of, function_of}
use Rattle.mesh_query_grammar.specs.Rules.{Rule, Tree, expr, more_ors, conjunction, more_ands, negation, pred, tested, ranged, cat, more_cats, sum, more_sums, product, more_products, signed, post, more_casts, value, named, group, case, cast, operand, arms, more_arms, arm, otherwise, arguments, exprs, more_exprs, item, items, more_items, alias, qualified, relation, relations, more_joins, join, joined, source, condition, keys, select, selected, union, more_selects, cte, cte_list, more_ctes, ctes, query}

-- what an identifier, a text, a macro or a sign says
abbrev pub bytes_of : TokenKind → List ℕ
bytes_of (Ident x) = x
bytes_of (Text x) = x
bytes_of (Macro x) = x
bytes_of (Sign x) = x
bytes_of (Number n) = []

abbrev pub said : Token → List ℕ
said k = bytes_of k.kind

abbrev pub number_in : TokenKind → ℕ
number_in (Number n) = n
number_in _ = 0

abbrev pub amount : Token → ℕ
amount k = number_in k.kind

abbrev pub kind_is_word : List ℕ → TokenKind → Bool
kind_is_word word (Ident x) = bytes_eq x word
kind_is_word word _ = false

abbrev pub kind_is_sign : List ℕ → TokenKind → Bool
kind_is_sign sign (Sign x) = bytes_eq x sign
kind_is_sign sign _ = false

abbrev pub negated : Bool → Bool
negated true = false
negated false = true

abbrev pub kind_is_name : TokenKind → Bool
kind_is_name (Ident x) = negated (is_reserved x)
kind_is_name _ = false

abbrev pub kind_is_text : TokenKind → Bool
kind_is_text (Text x) = true
kind_is_text _ = false

abbrev pub kind_is_number : TokenKind → Bool
kind_is_number (Number x) = true
kind_is_number _ = false

abbrev pub kind_is_macro : TokenKind → Bool
kind_is_macro (Macro x) = true
kind_is_macro _ = false

abbrev pub is_type_of : Option ColType → Bool
is_type_of None = false
is_type_of (Some t) = true

abbrev pub the_type : Option ColType → ColType
the_type None = column.Int
the_type (Some t) = t

abbrev pub kind_is_type : TokenKind → Bool
kind_is_type (Ident x) = is_type_of (type_of x)
kind_is_type _ = false

-- tests of the next token
abbrev pub is_word : List ℕ → Token → Bool
is_word word k = kind_is_word word k.kind

abbrev pub is_sign : List ℕ → Token → Bool
is_sign sign k = kind_is_sign sign k.kind

abbrev pub is_name : Token → Bool
is_name k = kind_is_name k.kind

abbrev pub is_text : Token → Bool
is_text k = kind_is_text k.kind

abbrev pub is_number : Token → Bool
is_number k = kind_is_number k.kind

abbrev pub is_macro : Token → Bool
is_macro k = kind_is_macro k.kind

abbrev pub is_type : Token → Bool
is_type k = kind_is_type k.kind

abbrev pub type_named : Token → ColType
type_named k = the_type (type_of (said k))

abbrev pub is_any : Token → Bool
is_any k = true

-- the operators that a token can be; the last of each kind where it is none
abbrev pub cmp_said : List ℕ → Cmp
cmp_said s =
    if bytes_eq s (codes "=") then cmp.Eq else
    (if bytes_eq s (codes "<>") then cmp.Ne else
    (if bytes_eq s (codes "<") then cmp.Lt else
    (if bytes_eq s (codes "<=") then cmp.Le else
    (if bytes_eq s (codes ">") then cmp.Gt else cmp.Ge))))

abbrev pub is_cmp : Token → Bool
is_cmp k = is_sign (codes "=") k || is_sign (codes "<>") k || is_sign (codes "<") k || is_sign (codes "<=") k || is_sign (codes ">") k || is_sign (codes ">=") k

abbrev pub add_said : List ℕ → AddSign
add_said s = if bytes_eq s (codes "+") then add.Plus else add.Minus

abbrev pub is_add : Token → Bool
is_add k = is_sign (codes "+") k || is_sign (codes "-") k

abbrev pub mul_said : List ℕ → MulSign
mul_said s = if bytes_eq s (codes "*") then mul.Times else (if bytes_eq s (codes "/") then mul.Over else mul.Modulo)

abbrev pub is_mul : Token → Bool
is_mul k = is_sign (codes "*") k || is_sign (codes "/") k || is_sign (codes "%") k

abbrev pub begins_range : Token → Bool
begins_range k = is_word (codes "between") k || is_word (codes "in") k

abbrev pub begins_join : Token → Bool
begins_join k = is_sign (codes ",") k || is_word (codes "cross") k || is_word (codes "inner") k || is_word (codes "join") k || is_word (codes "left") k

-- what may stand behind the comma behind the last item
abbrev pub ends_items : Token → Bool
ends_items k =
    is_word (codes "from") k || is_word (codes "where") k || is_word (codes "group") k || is_word (codes "having") k || is_word (codes "union") k
    || is_sign (codes ")") k || is_sign (codes ";") k

-- What is done: end with a tree; give up; take the next token if it passes the test, and else go on without it; look
-- at the next token; note its place; read a phrase of another rule; read one that is one deeper; take a text that is
-- a real day; take a name, a dot and a star if these stand here.
pub data Plan (r : Rule) : Type 0 where
  done : Tree r → Plan r
  stuck : Plan r
  accept : (Token → Bool) → (Token → Plan r) → Plan r → Plan r
  peek : (Token → Bool) → Plan r → Plan r → Plan r
  note : (ℕ → Plan r) → Plan r
  read : (o : Rule) → (Tree o → Plan r) → Plan r
  nest : (o : Rule) → (Tree o → Plan r) → Plan r
  day : (ℤ → Plan r) → Plan r
  star : (Token → Plan r) → Plan r → Plan r

-- the token has to pass the test
abbrev pub take : {r : Rule} → (Token → Bool) → (Token → Plan r) → Plan r
take test f = accept test f stuck

abbrev pub arguments_plan : (f : Function) → Plan (arguments f)
arguments_plan the_function.Count =
    note (λ at.
    accept (is_sign (codes "*")) (λ k. done (the_args.Star at))
    (accept (is_word (codes "distinct")) (λ k. read expr (λ x. done (the_args.Distinct at x)))
    (read expr (λ x. done (the_args.List at (x ∷ []))))))
arguments_plan the_function.Nullif =
    note (λ at. read expr (λ x. take (is_sign (codes ",")) (λ k. read expr (λ y. done (the_args.List at (x ∷ y ∷ []))))))
arguments_plan the_function.Coalesce = note (λ at. read exprs (λ xs. done (the_args.List at xs)))
arguments_plan _ = note (λ at. read expr (λ x. done (the_args.List at (x ∷ []))))

abbrev pub call_plan : (at : ℕ) (name : List ℕ) → Option Function → Plan (named at name)
call_plan at name None = stuck
call_plan at name (Some f) =
    take (is_sign (codes "(")) (λ k. nest (arguments f) (λ a. take (is_sign (codes ")")) (λ j. done (the_primary.Call at f a))))

abbrev pub column_plan : (at : ℕ) (name : List ℕ) → Plan (named at name)
column_plan at name =
    peek (is_sign (codes "(")) (call_plan at name (function_of name))
    (accept (is_sign (codes ".")) (λ k. take is_name (λ j. done (the_primary.Column at (Some name) (said j))))
    (done (the_primary.Column at None name)))

-- the word `date` may have a text behind it
abbrev pub named_plan : (at : ℕ) (name : List ℕ) → Bool → Plan (named at name)
named_plan at name true = peek is_text (day (λ d. done (the_primary.Date at d))) (column_plan at name)
named_plan at name false = column_plan at name

abbrev pub literal_plan : (at : ℕ) → Plan value
literal_plan at =
    accept is_number (λ k. done (the_primary.Number at (amount k)))
    (accept is_text (λ k. done (the_primary.Text at (said k)))
    (accept is_macro (λ k. done (the_primary.Macro at (said k)))
    (accept (is_word (codes "true")) (λ k. done (the_primary.Truth at true))
    (accept (is_word (codes "false")) (λ k. done (the_primary.Truth at false))
    (take (is_word (codes "null")) (λ k. done (the_primary.Null at)))))))

abbrev pub on_plan : (f : SurfaceRel → OrExpr → SurfaceJoin) → Plan join
on_plan f = take (is_word (codes "join")) (λ k. read joined (λ p. done (f p.0 p.1)))

abbrev pub plan : (r : Rule) → Plan r
plan expr = note (λ at. read conjunction (λ x. read (more_ors at (x ∷ [])) done))
plan (more_ors at xs) =
    accept (is_word (codes "or")) (λ k. read conjunction (λ x. read (more_ors at (xs ++ x ∷ [])) done))
    (done (roll-OrExpr (record { at = at; parts = xs })))
plan conjunction = note (λ at. read negation (λ x. read (more_ands at (x ∷ [])) done))
plan (more_ands at xs) =
    accept (is_word (codes "and")) (λ k. read negation (λ x. read (more_ands at (xs ++ x ∷ [])) done))
    (done (roll-AndExpr (record { at = at; parts = xs })))
plan negation =
    note (λ at.
    accept (is_word (codes "not")) (λ k. nest negation (λ x. done (the_not.Not at x)))
    (read pred (λ p. done (the_not.Plain at p))))
plan pred = note (λ at. read cat (λ l. read tested (λ t. done (roll-Pred (record { at = at; left = l; test = t })))))
plan tested =
    accept (is_word (codes "is"))
    (λ k.
    accept (is_word (codes "not")) (λ j. take (is_word (codes "null")) (λ i. done (the_test.IsNull true)))
    (take (is_word (codes "null")) (λ j. done (the_test.IsNull false))))
    (accept (is_word (codes "not")) (λ k. read (ranged true) done)
    (peek begins_range (read (ranged false) done)
    (accept is_cmp (λ k. read cat (λ r. done (the_test.Compare (cmp_said (said k)) r)))
    (done the_test.Nothing))))
plan (ranged g) =
    accept (is_word (codes "between")) (λ k. read cat (λ a. take (is_word (codes "and")) (λ j. read cat (λ b. done (the_test.Between g a b)))))
    (take (is_word (codes "in"))
    (λ k. take (is_sign (codes "(")) (λ j. nest exprs (λ xs. take (is_sign (codes ")")) (λ i. done (the_test.OneOf g xs))))))
plan cat = note (λ at. read sum (λ x. read (more_cats at (x ∷ [])) done))
plan (more_cats at xs) =
    accept (is_sign (codes "||")) (λ k. read sum (λ x. read (more_cats at (xs ++ x ∷ [])) done))
    (done (roll-CatExpr (record { at = at; parts = xs })))
plan sum = note (λ at. read product (λ x. read (more_sums at x []) done))
plan (more_sums at x xs) =
    accept is_add (λ k. read product (λ y. read (more_sums at x (xs ++ roll-AddStep (record { at = k.start; sign = add_said (said k); part = y }) ∷ [])) done))
    (done (roll-AddExpr (record { at = at; first = x; rest = xs })))
plan product = note (λ at. read signed (λ x. read (more_products at x []) done))
plan (more_products at x xs) =
    accept is_mul (λ k. read signed (λ y. read (more_products at x (xs ++ roll-MulStep (record { at = k.start; sign = mul_said (said k); part = y }) ∷ [])) done))
    (done (roll-MulExpr (record { at = at; first = x; rest = xs })))
plan signed =
    note (λ at.
    accept (is_sign (codes "-")) (λ k. nest signed (λ x. done (the_unary.Minus at x)))
    (read post (λ p. done (the_unary.Plain at p))))
plan post = note (λ at. read value (λ v. read (more_casts at v []) done))
plan (more_casts at v ks) =
    accept (is_sign (codes "::")) (λ k. take is_type (λ j. read (more_casts at v (ks ++ type_named j ∷ [])) done))
    (done (roll-Post (record { at = at; value = v; casts = ks })))
plan value =
    note (λ at.
    peek (is_sign (codes "(")) (read group done)
    (peek (is_word (codes "case")) (read case done)
    (peek (is_word (codes "cast")) (read cast done)
    (accept is_name (λ k. read (named at (said k)) done) (literal_plan at)))))
plan (named at name) = named_plan at name (bytes_eq name (codes "date"))
plan group = note (λ at. take (is_sign (codes "(")) (λ k. nest expr (λ x. take (is_sign (codes ")")) (λ j. done (the_primary.Group at x)))))
plan case =
    note (λ at.
    take (is_word (codes "case"))
    (λ k. nest operand (λ o. nest arms (λ xs. nest otherwise (λ e. take (is_word (codes "end")) (λ j. done (the_primary.Case at o xs e)))))))
plan cast =
    note (λ at.
    take (is_word (codes "cast"))
    (λ k. take (is_sign (codes "("))
    (λ j. nest expr
    (λ x. take (is_word (codes "as")) (λ i. take is_type (λ h. take (is_sign (codes ")")) (λ g. done (the_primary.Cast at x (type_named h)))))))))
plan operand = peek (is_word (codes "when")) (done None) (read expr (λ x. done (Some x)))
plan arms = read arm (λ x. read (more_arms (x ∷ [])) done)
plan (more_arms xs) = peek (is_word (codes "when")) (read arm (λ x. read (more_arms (xs ++ x ∷ [])) done)) (done xs)
plan arm =
    note (λ at.
    take (is_word (codes "when"))
    (λ k. read expr (λ t. take (is_word (codes "then")) (λ j. read expr (λ v. done (roll-Arm (record { at = at; test = t; value = v })))))))
plan otherwise = accept (is_word (codes "else")) (λ k. read expr (λ x. done (Some x))) (done None)
plan (arguments f) = arguments_plan f
plan exprs = read expr (λ x. read (more_exprs (x ∷ [])) done)
plan (more_exprs xs) = accept (is_sign (codes ",")) (λ k. read expr (λ x. read (more_exprs (xs ++ x ∷ [])) done)) (done xs)
plan item =
    note (λ at.
    accept (is_sign (codes "*")) (λ k. done (the_item.All at))
    (star (λ k. done (the_item.AllOf at (said k)))
    (read expr (λ x. read alias (λ a. done (the_item.Value at x a))))))
plan items = read item (λ x. read (more_items (x ∷ [])) done)
plan (more_items xs) =
    accept (is_sign (codes ","))
    (λ k. peek ends_items (done xs) (peek is_any (read item (λ x. read (more_items (xs ++ x ∷ [])) done)) (done xs)))
    (done xs)
plan alias =
    accept (is_word (codes "as")) (λ k. take is_name (λ j. done (Some (said j))))
    (accept is_name (λ k. done (Some (said k))) (done None))
plan qualified =
    take is_name
    (λ k. accept (is_sign (codes ".")) (λ j. take is_name (λ i. done (Some (said k), said i))) (done (None, said k)))
plan relation = note (λ at. read qualified (λ q. read alias (λ a. done (record { at = at; schema = q.0; name = q.1; alias = a }))))
plan relations = note (λ at. read relation (λ r. read (more_joins at r []) done))
plan (more_joins at r xs) =
    peek begins_join (read join (λ x. read (more_joins at r (xs ++ x ∷ [])) done))
    (done (record { at = at; first = r; joins = xs }))
plan join =
    note (λ at.
    accept (is_sign (codes ",")) (λ k. read relation (λ r. done (the_join.Comma at r)))
    (accept (is_word (codes "cross")) (λ k. take (is_word (codes "join")) (λ j. read relation (λ r. done (the_join.Cross at r))))
    (accept (is_word (codes "left"))
    (λ k. accept (is_word (codes "outer")) (λ j. on_plan (the_join.Left at)) (on_plan (the_join.Left at)))
    (accept (is_word (codes "inner")) (λ k. on_plan (the_join.Inner at)) (on_plan (the_join.Inner at))))))
plan joined = read relation (λ r. take (is_word (codes "on")) (λ k. read expr (λ x. done (r, x))))
plan source = accept (is_word (codes "from")) (λ k. read relations (λ f. done (Some f))) (done None)
plan (condition w) = accept (is_word w) (λ k. read expr (λ x. done (Some x))) (done None)
plan keys = accept (is_word (codes "group")) (λ k. take (is_word (codes "by")) (λ j. read exprs done)) (done [])
plan select =
    note (λ at.
    take (is_word (codes "select"))
    (λ k. accept (is_word (codes "distinct")) (λ j. read (selected at true) done) (read (selected at false) done)))
plan (selected at d) =
    read items
    (λ xs. read source
    (λ f. read (condition (codes "where"))
    (λ w. read keys
    (λ ks. read (condition (codes "having")) (λ h. done (record { at = at; distinct = d; items = xs; from = f; filter = w; keys = ks; having = h }))))))
plan union = note (λ at. read select (λ x. read (more_selects at (x ∷ [])) done))
plan (more_selects at xs) =
    accept (is_word (codes "union")) (λ k. take (is_word (codes "all")) (λ j. read select (λ x. read (more_selects at (xs ++ x ∷ [])) done)))
    (done (record { at = at; selects = xs }))
plan cte =
    note (λ at.
    take is_name
    (λ k. take (is_word (codes "as"))
    (λ j. take (is_sign (codes "("))
    (λ i. nest union (λ u. take (is_sign (codes ")")) (λ h. done (record { at = at; name = said k; body = u })))))))
plan cte_list = read cte (λ x. read (more_ctes (x ∷ [])) done)
plan (more_ctes xs) = accept (is_sign (codes ",")) (λ k. read cte (λ x. read (more_ctes (xs ++ x ∷ [])) done)) (done xs)
plan ctes = accept (is_word (codes "with")) (λ k. read cte_list done) (done [])
plan query =
    note (λ at. read ctes
    (λ cs. read union
    (λ u. accept (is_sign (codes ";")) (λ k. done (record { at = at; ctes = cs; body = u })) (done (record { at = at; ctes = cs; body = u })))))
