-- The grammar: which tokens spell which part of a query. `Spells n p s e` says that the list s begins with tokens that
-- spell p, and that e is what stands behind them. The number bounds the parentheses, CASEs, NOTs and minus signs that
-- are open at once.
use Rattle.std.specs.Prelude.{◌≡◌, ℕ, ℤ, ◌+◌, List, [], ◌∷◌, ◌++◌, codes, Bool, true, false, Option, Some, None}
use Rattle.mesh_base_values.specs.declared.values.ColType.{ColType}
use Rattle.mesh_query_tokens.specs.declared.tokens.Token.{Token}
use Rattle.mesh_query_tokens.specs.declared.tokens.TokenKind.TheVariants as the_kind
use Rattle.mesh_query_grammar.specs.declared.surface.signs.Cmp.{Cmp}
use Rattle.mesh_query_grammar.specs.declared.surface.signs.AddSign.{AddSign}
use Rattle.mesh_query_grammar.specs.declared.surface.signs.MulSign.{MulSign}
use Rattle.mesh_query_grammar.specs.declared.surface.signs.Function.{Function}
use Rattle.mesh_query_grammar.specs.declared.surface.signs.Function.TheVariants as the_function
use Rattle.mesh_query_grammar.specs.declared.surface.expressions.OrExpr.{OrExpr, roll-OrExpr}
use Rattle.mesh_query_grammar.specs.declared.surface.expressions.AndExpr.{AndExpr, roll-AndExpr}
use Rattle.mesh_query_grammar.specs.declared.surface.expressions.NotExpr.{NotExpr}
use Rattle.mesh_query_grammar.specs.declared.surface.expressions.NotExpr.TheVariants as the_not
use Rattle.mesh_query_grammar.specs.declared.surface.expressions.Pred.{Pred, roll-Pred}
use Rattle.mesh_query_grammar.specs.declared.surface.expressions.Test.{Test}
use Rattle.mesh_query_grammar.specs.declared.surface.expressions.Test.TheVariants as the_test
use Rattle.mesh_query_grammar.specs.declared.surface.expressions.CatExpr.{CatExpr, roll-CatExpr}
use Rattle.mesh_query_grammar.specs.declared.surface.expressions.AddExpr.{AddExpr, roll-AddExpr}
use Rattle.mesh_query_grammar.specs.declared.surface.expressions.AddStep.{AddStep, roll-AddStep}
use Rattle.mesh_query_grammar.specs.declared.surface.expressions.MulExpr.{MulExpr, roll-MulExpr}
use Rattle.mesh_query_grammar.specs.declared.surface.expressions.MulStep.{MulStep, roll-MulStep}
use Rattle.mesh_query_grammar.specs.declared.surface.expressions.Unary.{Unary}
use Rattle.mesh_query_grammar.specs.declared.surface.expressions.Unary.TheVariants as the_unary
use Rattle.mesh_query_grammar.specs.declared.surface.expressions.Post.{Post, roll-Post}
use Rattle.mesh_query_grammar.specs.declared.surface.expressions.Primary.{Primary}
use Rattle.mesh_query_grammar.specs.declared.surface.expressions.Primary.TheVariants as the_primary
use Rattle.mesh_query_grammar.specs.declared.surface.expressions.Arm.{Arm, roll-Arm}
use Rattle.mesh_query_grammar.specs.declared.surface.expressions.Args.{Args}
use Rattle.mesh_query_grammar.specs.declared.surface.expressions.Args.TheVariants as the_args
use Rattle.mesh_query_grammar.specs.declared.surface.queries.Surface.{Surface}
use Rattle.mesh_query_grammar.specs.declared.surface.queries.SurfaceCte.{SurfaceCte}
use Rattle.mesh_query_grammar.specs.declared.surface.queries.SurfaceUnion.{SurfaceUnion}
use Rattle.mesh_query_grammar.specs.declared.surface.queries.SurfaceSelect.{SurfaceSelect}
use Rattle.mesh_query_grammar.specs.declared.surface.queries.SurfaceItem.{SurfaceItem}
use Rattle.mesh_query_grammar.specs.declared.surface.queries.SurfaceItem.TheVariants as the_item
use Rattle.mesh_query_grammar.specs.declared.surface.queries.SurfaceFrom.{SurfaceFrom}
use Rattle.mesh_query_grammar.specs.declared.surface.queries.SurfaceJoin.{SurfaceJoin}
use Rattle.mesh_query_grammar.specs.declared.surface.queries.SurfaceJoin.TheVariants as the_join
use Rattle.mesh_query_grammar.specs.declared.surface.queries.SurfaceRel.{SurfaceRel}
use Rattle.mesh_query_grammar.specs.Signs.{place, Next, IsWord, IsSign, IsName, IsType, IsFunction, IsDay, cmp_text, add_text, mul_text, IsAlias, IsOptional, IsFlag, IsOptionalSign, IsQualified, IsRelation}

-- What is spelled: a rule of the grammar, or a list of parts within one.
pub data Phrase : Type 0 where
  expr : OrExpr → Phrase
  or_parts : List AndExpr → Phrase
  conjunction : AndExpr → Phrase
  and_parts : List NotExpr → Phrase
  negation : NotExpr → Phrase
  pred : Pred → Phrase
  tested : Test → Phrase
  -- BETWEEN or IN, without the NOT before it
  ranged : Bool → Test → Phrase
  cat : CatExpr → Phrase
  cat_parts : List AddExpr → Phrase
  sum : AddExpr → Phrase
  sum_steps : MulExpr → List AddStep → Phrase
  product : MulExpr → Phrase
  product_steps : Unary → List MulStep → Phrase
  signed : Unary → Phrase
  post : Post → Phrase
  casts : Primary → List ColType → Phrase
  value : Primary → Phrase
  operand : Option OrExpr → Phrase
  arms : List Arm → Phrase
  arm : Arm → Phrase
  otherwise : Option OrExpr → Phrase
  arguments : Function → Args → Phrase
  exprs : List OrExpr → Phrase
  item : SurfaceItem → Phrase
  items : List SurfaceItem → Phrase
  joined : SurfaceRel → List SurfaceJoin → Phrase
  join : SurfaceJoin → Phrase
  relations : SurfaceFrom → Phrase
  source : Option SurfaceFrom → Phrase
  condition : List ℕ → Option OrExpr → Phrase
  keys : List OrExpr → Phrase
  select : SurfaceSelect → Phrase
  selects : List SurfaceSelect → Phrase
  union : SurfaceUnion → Phrase
  cte : SurfaceCte → Phrase
  cte_list : List SurfaceCte → Phrase
  ctes : List SurfaceCte → Phrase
  query : Surface → Phrase

-- functions of one argument
abbrev pub takes_one : Function → Bool
takes_one the_function.Nullif = false
takes_one the_function.Coalesce = false
takes_one _ = true

pub data Spells : ℕ → Phrase → List Token → List Token → Type 0 where
  -- expr: one part or more, with OR between them
  ors : {n : ℕ} {xs : List AndExpr} {s e : List Token} → Spells n (or_parts xs) s e → Spells n (expr (roll-OrExpr (record { at = place s; parts = xs }))) s e
  one_or : {n : ℕ} {x : AndExpr} {s e : List Token} → Spells n (conjunction x) s e → Spells n (or_parts (x ∷ [])) s e
  more_or : {n : ℕ} {xs : List AndExpr} {x : AndExpr} {s m i e : List Token} → Spells n (or_parts xs) s m → IsWord (codes "or") m i → Spells n (conjunction x) i e → Spells n (or_parts (xs ++ x ∷ [])) s e
  -- and: one part or more, with AND between them
  ands : {n : ℕ} {xs : List NotExpr} {s e : List Token} → Spells n (and_parts xs) s e → Spells n (conjunction (roll-AndExpr (record { at = place s; parts = xs }))) s e
  one_and : {n : ℕ} {x : NotExpr} {s e : List Token} → Spells n (negation x) s e → Spells n (and_parts (x ∷ [])) s e
  more_and : {n : ℕ} {xs : List NotExpr} {x : NotExpr} {s m i e : List Token} → Spells n (and_parts xs) s m → IsWord (codes "and") m i → Spells n (negation x) i e → Spells n (and_parts (xs ++ x ∷ [])) s e
  -- not
  negated : {n o : ℕ} {x : NotExpr} {s m e : List Token} → n ≡ o + 1 → IsWord (codes "not") s m → Spells o (negation x) m e → Spells n (negation (the_not.Not (place s) x)) s e
  plain : {n : ℕ} {p : Pred} {s e : List Token} → Spells n (pred p) s e → Spells n (negation (the_not.Plain (place s) p)) s e
  -- pred: a value, and what is asked about it
  asked : {n : ℕ} {l : CatExpr} {t : Test} {s m e : List Token} → Spells n (cat l) s m → Spells n (tested t) m e → Spells n (pred (roll-Pred (record { at = place s; left = l; test = t }))) s e
  nothing : {n : ℕ} {s : List Token} → Spells n (tested the_test.Nothing) s s
  compared : {n : ℕ} {c : Cmp} {r : CatExpr} {s m e : List Token} → IsSign (cmp_text c) s m → Spells n (cat r) m e → Spells n (tested (the_test.Compare c r)) s e
  is_null : {n : ℕ} {s m e : List Token} → IsWord (codes "is") s m → IsWord (codes "null") m e → Spells n (tested (the_test.IsNull false)) s e
  is_not_null : {n : ℕ} {s m i e : List Token} → IsWord (codes "is") s m → IsWord (codes "not") m i → IsWord (codes "null") i e → Spells n (tested (the_test.IsNull true)) s e
  with_range : {n : ℕ} {t : Test} {s e : List Token} → Spells n (ranged false t) s e → Spells n (tested t) s e
  without_range : {n : ℕ} {t : Test} {s m e : List Token} → IsWord (codes "not") s m → Spells n (ranged true t) m e → Spells n (tested t) s e
  between : {n : ℕ} {g : Bool} {a b : CatExpr} {s m i j e : List Token} → IsWord (codes "between") s m → Spells n (cat a) m i → IsWord (codes "and") i j → Spells n (cat b) j e → Spells n (ranged g (the_test.Between g a b)) s e
  one_of : {n o : ℕ} {g : Bool} {xs : List OrExpr} {s m i j e : List Token} → n ≡ o + 1 → IsWord (codes "in") s m → IsSign (codes "(") m i → Spells o (exprs xs) i j → IsSign (codes ")") j e → Spells n (ranged g (the_test.OneOf g xs)) s e
  -- cat, add and mul: parts with operators of one strength between them
  cats : {n : ℕ} {xs : List AddExpr} {s e : List Token} → Spells n (cat_parts xs) s e → Spells n (cat (roll-CatExpr (record { at = place s; parts = xs }))) s e
  one_cat : {n : ℕ} {x : AddExpr} {s e : List Token} → Spells n (sum x) s e → Spells n (cat_parts (x ∷ [])) s e
  more_cat : {n : ℕ} {xs : List AddExpr} {x : AddExpr} {s m i e : List Token} → Spells n (cat_parts xs) s m → IsSign (codes "||") m i → Spells n (sum x) i e → Spells n (cat_parts (xs ++ x ∷ [])) s e
  sums : {n : ℕ} {x : MulExpr} {xs : List AddStep} {s e : List Token} → Spells n (sum_steps x xs) s e → Spells n (sum (roll-AddExpr (record { at = place s; first = x; rest = xs }))) s e
  one_sum : {n : ℕ} {x : MulExpr} {s e : List Token} → Spells n (product x) s e → Spells n (sum_steps x []) s e
  more_sum : {n : ℕ} {x y : MulExpr} {xs : List AddStep} (o : AddSign) {s m i e : List Token} → Spells n (sum_steps x xs) s m → IsSign (add_text o) m i → Spells n (product y) i e → Spells n (sum_steps x (xs ++ roll-AddStep (record { at = place m; sign = o; part = y }) ∷ [])) s e
  products : {n : ℕ} {x : Unary} {xs : List MulStep} {s e : List Token} → Spells n (product_steps x xs) s e → Spells n (product (roll-MulExpr (record { at = place s; first = x; rest = xs }))) s e
  one_product : {n : ℕ} {x : Unary} {s e : List Token} → Spells n (signed x) s e → Spells n (product_steps x []) s e
  more_product : {n : ℕ} {x y : Unary} {xs : List MulStep} (o : MulSign) {s m i e : List Token} → Spells n (product_steps x xs) s m → IsSign (mul_text o) m i → Spells n (signed y) i e → Spells n (product_steps x (xs ++ roll-MulStep (record { at = place m; sign = o; part = y }) ∷ [])) s e
  -- un and post
  minus : {n o : ℕ} {x : Unary} {s m e : List Token} → n ≡ o + 1 → IsSign (codes "-") s m → Spells o (signed x) m e → Spells n (signed (the_unary.Minus (place s) x)) s e
  unsigned : {n : ℕ} {p : Post} {s e : List Token} → Spells n (post p) s e → Spells n (signed (the_unary.Plain (place s) p)) s e
  posts : {n : ℕ} {v : Primary} {ks : List ColType} {s e : List Token} → Spells n (casts v ks) s e → Spells n (post (roll-Post (record { at = place s; value = v; casts = ks }))) s e
  no_cast : {n : ℕ} {v : Primary} {s e : List Token} → Spells n (value v) s e → Spells n (casts v []) s e
  more_cast : {n : ℕ} {v : Primary} {ks : List ColType} {k : ColType} {s m i e : List Token} → Spells n (casts v ks) s m → IsSign (codes "::") m i → IsType k i e → Spells n (casts v (ks ++ k ∷ [])) s e
  -- prim
  number : {n x : ℕ} {s e : List Token} → Next (the_kind.Number x) s e → Spells n (value (the_primary.Number (place s) x)) s e
  text : {n : ℕ} {x : List ℕ} {s e : List Token} → Next (the_kind.Text x) s e → Spells n (value (the_primary.Text (place s) x)) s e
  macro : {n : ℕ} {x : List ℕ} {s e : List Token} → Next (the_kind.Macro x) s e → Spells n (value (the_primary.Macro (place s) x)) s e
  date : {n : ℕ} {day : ℤ} {s m e : List Token} → IsWord (codes "date") s m → IsDay day m e → Spells n (value (the_primary.Date (place s) day)) s e
  truth : {n : ℕ} {s e : List Token} → IsWord (codes "true") s e → Spells n (value (the_primary.Truth (place s) true)) s e
  falsehood : {n : ℕ} {s e : List Token} → IsWord (codes "false") s e → Spells n (value (the_primary.Truth (place s) false)) s e
  null : {n : ℕ} {s e : List Token} → IsWord (codes "null") s e → Spells n (value (the_primary.Null (place s))) s e
  column : {n : ℕ} {of : Option (List ℕ)} {name : List ℕ} {s e : List Token} → IsQualified of name s e → Spells n (value (the_primary.Column (place s) of name)) s e
  call : {n o : ℕ} {f : Function} {a : Args} {s m i j e : List Token} → n ≡ o + 1 → IsFunction f s m → IsSign (codes "(") m i → Spells o (arguments f a) i j → IsSign (codes ")") j e → Spells n (value (the_primary.Call (place s) f a)) s e
  group : {n o : ℕ} {x : OrExpr} {s m i e : List Token} → n ≡ o + 1 → IsSign (codes "(") s m → Spells o (expr x) m i → IsSign (codes ")") i e → Spells n (value (the_primary.Group (place s) x)) s e
  case : {n o : ℕ} {of x : Option OrExpr} {xs : List Arm} {s m i j l e : List Token} → n ≡ o + 1 → IsWord (codes "case") s m → Spells o (operand of) m i → Spells o (arms xs) i j → Spells o (otherwise x) j l → IsWord (codes "end") l e → Spells n (value (the_primary.Case (place s) of xs x)) s e
  cast : {n o : ℕ} {x : OrExpr} {to : ColType} {s m i j k l e : List Token} → n ≡ o + 1 → IsWord (codes "cast") s m → IsSign (codes "(") m i → Spells o (expr x) i j → IsWord (codes "as") j k → IsType to k l → IsSign (codes ")") l e → Spells n (value (the_primary.Cast (place s) x to)) s e
  -- the parts of CASE
  no_operand : {n : ℕ} {s : List Token} → Spells n (operand None) s s
  an_operand : {n : ℕ} {x : OrExpr} {s e : List Token} → Spells n (expr x) s e → Spells n (operand (Some x)) s e
  one_arm : {n : ℕ} {x : Arm} {s e : List Token} → Spells n (arm x) s e → Spells n (arms (x ∷ [])) s e
  more_arm : {n : ℕ} {xs : List Arm} {x : Arm} {s m e : List Token} → Spells n (arms xs) s m → Spells n (arm x) m e → Spells n (arms (xs ++ x ∷ [])) s e
  when : {n : ℕ} {t v : OrExpr} {s m i j e : List Token} → IsWord (codes "when") s m → Spells n (expr t) m i → IsWord (codes "then") i j → Spells n (expr v) j e → Spells n (arm (roll-Arm (record { at = place s; test = t; value = v }))) s e
  no_else : {n : ℕ} {s : List Token} → Spells n (otherwise None) s s
  an_else : {n : ℕ} {x : OrExpr} {s m e : List Token} → IsWord (codes "else") s m → Spells n (expr x) m e → Spells n (otherwise (Some x)) s e
  -- args: as many as the function takes; `*` and DISTINCT in COUNT alone
  star : {n : ℕ} {s e : List Token} → IsSign (codes "*") s e → Spells n (arguments the_function.Count (the_args.Star (place s))) s e
  different : {n : ℕ} {x : OrExpr} {s m e : List Token} → IsWord (codes "distinct") s m → Spells n (expr x) m e → Spells n (arguments the_function.Count (the_args.Distinct (place s) x)) s e
  one_argument : {n : ℕ} {f : Function} {x : OrExpr} {s e : List Token} → takes_one f ≡ true → Spells n (expr x) s e → Spells n (arguments f (the_args.List (place s) (x ∷ []))) s e
  two_arguments : {n : ℕ} {x y : OrExpr} {s m i e : List Token} → Spells n (expr x) s m → IsSign (codes ",") m i → Spells n (expr y) i e → Spells n (arguments the_function.Nullif (the_args.List (place s) (x ∷ y ∷ []))) s e
  more_arguments : {n : ℕ} {xs : List OrExpr} {s e : List Token} → Spells n (exprs xs) s e → Spells n (arguments the_function.Coalesce (the_args.List (place s) xs)) s e
  one_expr : {n : ℕ} {x : OrExpr} {s e : List Token} → Spells n (expr x) s e → Spells n (exprs (x ∷ [])) s e
  more_expr : {n : ℕ} {xs : List OrExpr} {x : OrExpr} {s m i e : List Token} → Spells n (exprs xs) s m → IsSign (codes ",") m i → Spells n (expr x) i e → Spells n (exprs (xs ++ x ∷ [])) s e
  -- item
  all : {n : ℕ} {s e : List Token} → IsSign (codes "*") s e → Spells n (item (the_item.All (place s))) s e
  all_of : {n : ℕ} {name : List ℕ} {s m i e : List Token} → IsName name s m → IsSign (codes ".") m i → IsSign (codes "*") i e → Spells n (item (the_item.AllOf (place s) name)) s e
  one_value : {n : ℕ} {x : OrExpr} {a : Option (List ℕ)} {s m e : List Token} → Spells n (expr x) s m → IsAlias a m e → Spells n (item (the_item.Value (place s) x a)) s e
  one_item : {n : ℕ} {x : SurfaceItem} {s e : List Token} → Spells n (item x) s e → Spells n (items (x ∷ [])) s e
  more_item : {n : ℕ} {xs : List SurfaceItem} {x : SurfaceItem} {s m i e : List Token} → Spells n (items xs) s m → IsSign (codes ",") m i → Spells n (item x) i e → Spells n (items (xs ++ x ∷ [])) s e
  -- from
  no_source : {n : ℕ} {s : List Token} → Spells n (source None) s s
  a_source : {n : ℕ} {f : SurfaceFrom} {s m e : List Token} → IsWord (codes "from") s m → Spells n (relations f) m e → Spells n (source (Some f)) s e
  related : {n : ℕ} {r : SurfaceRel} {xs : List SurfaceJoin} {s e : List Token} → Spells n (joined r xs) s e → Spells n (relations (record { at = place s; first = r; joins = xs })) s e
  one_relation : {n : ℕ} {r : SurfaceRel} {s e : List Token} → IsRelation r s e → Spells n (joined r []) s e
  more_relation : {n : ℕ} {r : SurfaceRel} {xs : List SurfaceJoin} {x : SurfaceJoin} {s m e : List Token} → Spells n (joined r xs) s m → Spells n (join x) m e → Spells n (joined r (xs ++ x ∷ [])) s e
  comma : {n : ℕ} {r : SurfaceRel} {s m e : List Token} → IsSign (codes ",") s m → IsRelation r m e → Spells n (join (the_join.Comma (place s) r)) s e
  cross : {n : ℕ} {r : SurfaceRel} {s m i e : List Token} → IsWord (codes "cross") s m → IsWord (codes "join") m i → IsRelation r i e → Spells n (join (the_join.Cross (place s) r)) s e
  inner : {n : ℕ} {r : SurfaceRel} {x : OrExpr} {s m i j k e : List Token} → IsOptional (codes "inner") s m → IsWord (codes "join") m i → IsRelation r i j → IsWord (codes "on") j k → Spells n (expr x) k e → Spells n (join (the_join.Inner (place s) r x)) s e
  left : {n : ℕ} {r : SurfaceRel} {x : OrExpr} {s l m i j k e : List Token} → IsWord (codes "left") s l → IsOptional (codes "outer") l m → IsWord (codes "join") m i → IsRelation r i j → IsWord (codes "on") j k → Spells n (expr x) k e → Spells n (join (the_join.Left (place s) r x)) s e
  -- select
  no_condition : {n : ℕ} {w : List ℕ} {s : List Token} → Spells n (condition w None) s s
  a_condition : {n : ℕ} {w : List ℕ} {x : OrExpr} {s m e : List Token} → IsWord w s m → Spells n (expr x) m e → Spells n (condition w (Some x)) s e
  no_keys : {n : ℕ} {s : List Token} → Spells n (keys []) s s
  some_keys : {n : ℕ} {xs : List OrExpr} {s m i e : List Token} → IsWord (codes "group") s m → IsWord (codes "by") m i → Spells n (exprs xs) i e → Spells n (keys xs) s e
  selected : {n : ℕ} {d : Bool} {xs : List SurfaceItem} {f : Option SurfaceFrom} {w h : Option OrExpr} {ks : List OrExpr} {s a b c i j k l e : List Token} →
      IsWord (codes "select") s a → IsFlag (codes "distinct") d a b → Spells n (items xs) b c → IsOptionalSign (codes ",") c i → Spells n (source f) i j → Spells n (condition (codes "where") w) j k →
      Spells n (keys ks) k l → Spells n (condition (codes "having") h) l e →
      Spells n (select (record { at = place s; distinct = d; items = xs; from = f; filter = w; keys = ks; having = h })) s e
  -- union, cte and query
  one_select : {n : ℕ} {x : SurfaceSelect} {s e : List Token} → Spells n (select x) s e → Spells n (selects (x ∷ [])) s e
  more_select : {n : ℕ} {xs : List SurfaceSelect} {x : SurfaceSelect} {s m i j e : List Token} → Spells n (selects xs) s m → IsWord (codes "union") m i → IsWord (codes "all") i j → Spells n (select x) j e → Spells n (selects (xs ++ x ∷ [])) s e
  unions : {n : ℕ} {xs : List SurfaceSelect} {s e : List Token} → Spells n (selects xs) s e → Spells n (union (record { at = place s; selects = xs })) s e
  defined : {n o : ℕ} {c : List ℕ} {u : SurfaceUnion} {s m i j k e : List Token} → n ≡ o + 1 → IsName c s m → IsWord (codes "as") m i → IsSign (codes "(") i j → Spells o (union u) j k → IsSign (codes ")") k e → Spells n (cte (record { at = place s; name = c; body = u })) s e
  one_cte : {n : ℕ} {x : SurfaceCte} {s e : List Token} → Spells n (cte x) s e → Spells n (cte_list (x ∷ [])) s e
  more_cte : {n : ℕ} {xs : List SurfaceCte} {x : SurfaceCte} {s m i e : List Token} → Spells n (cte_list xs) s m → IsSign (codes ",") m i → Spells n (cte x) i e → Spells n (cte_list (xs ++ x ∷ [])) s e
  no_ctes : {n : ℕ} {s : List Token} → Spells n (ctes []) s s
  some_ctes : {n : ℕ} {xs : List SurfaceCte} {s m e : List Token} → IsWord (codes "with") s m → Spells n (cte_list xs) m e → Spells n (ctes xs) s e
  whole : {n : ℕ} {cs : List SurfaceCte} {u : SurfaceUnion} {s m i e : List Token} → Spells n (ctes cs) s m → Spells n (union u) m i → IsOptionalSign (codes ";") i e → Spells n (query (record { at = place s; ctes = cs; body = u })) s e

-- a relation and the condition behind ON
abbrev pub IsRelationOn : ℕ → SurfaceRel → OrExpr → List Token → List Token → Type 0
IsRelationOn n r x s e = (m : List Token) × (i : List Token) × IsRelation r s m × IsWord (codes "on") m i × Spells n (expr x) i e
