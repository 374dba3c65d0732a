-- The value of a node, from the values of its parts: of an expression, and of a bound one.
use Rattle.std.proofs.Common.{◌≡◌, ℕ, pos, List, [], ◌∷◌, map, IfOk, slice_index_or, refl, sym, ap, subst, ◌∙◌, Ok}
use Rattle.std.specs.List.{position}
use Rattle.std.specs.Option.{option_map}
use Rattle.std.specs.declared.option.Option.{Option}
use Rattle.std.specs.declared.option.Option.TheVariants.{None, Some}
use Rattle.std.specs.declared.result.Result.{Result}
use Rattle.mesh_list.specs.declared.memory.Memory.{Memory}
use Rattle.std.proofs.lemmas.Result.{IfOk-weaker}
use Rattle.std.proofs.lemmas.List.{length-map}
use Rattle.mesh_base_values.specs.declared.times.Bounds.{Bounds}
use Rattle.mesh_base_values.specs.declared.values.Cell.{Cell}
use Rattle.mesh_base_values.specs.declared.values.Cell.TheVariants as cell
use Rattle.mesh_base_values.specs.declared.values.ColType.{ColType}
use Rattle.mesh_base_values.specs.declared.values.Column.{Column}
use Rattle.mesh_base.specs.declared.expressions.Expr.{Expr, roll-Expr, out-roll-Expr}
use Rattle.mesh_base.specs.declared.expressions.Expr as expr
use Rattle.mesh_base.specs.declared.expressions.Expr.TheOpen as open_expr
use Rattle.mesh_base.specs.declared.expressions.When.{When}
use Rattle.mesh_base.specs.declared.expressions.Op.{Op}
use Rattle.mesh_base.specs.declared.expressions.Func.{Func}
use Rattle.mesh_base.specs.declared.expressions.AggKind.{AggKind}
use Rattle.mesh_base.specs.declared.expressions.Var.{Var}
use Rattle.mesh_time_days.specs.casts.Casts.{cast_value}
use Rattle.mesh_spec_query.specs.Aggregates.{agg_value, count_of}
use Rattle.mesh_spec_query.specs.Cells.{is_null, op_value, negative, opposite, between, one_of, case_value, func_value}
use Rattle.mesh_spec_query.specs.Ev.{Scope, Seen, Ev, Ev_each, Ev_whens, Ev_node, at_row, seen, same_expr, over_group, key_or, node_value, valued}
use Rattle.mesh_spec_query.specs.Macros.{macro_value}
use Rattle.mesh_spec_query.specs.Sel.{Joined}
use Rattle.mesh_spec_query.proofs.Nodes.{Ev_out, Ev_when_is, Ev_call, Ev_case, Ev_agg}
use Rattle.mesh_eval_rows.specs.declared.joins.joined.spots.Spot.{Spot}
use Rattle.mesh_eval_rows.specs.joins.joined.Spots.{cell_at}
use Rattle.mesh_eval_expressions.specs.declared.bound.forms.Bound.{Bound, roll-Bound, fold-roll-Bound}
use Rattle.mesh_eval_expressions.specs.declared.bound.forms.Bound as bound
use Rattle.mesh_eval_expressions.specs.declared.bound.forms.Bound.TheOpen.{Lies, Known, Key, Binary, Neg, Not, IsNull, Between, OneOf, Cast, Call, Case, CountAll, Agg, Plain}
use Rattle.mesh_eval_expressions.specs.declared.bound.forms.BoundWhen.{BoundWhen}
use Rattle.mesh_eval_expressions.specs.bound.Meaning.{Given, Means, WhenMeans, IsBound, IsBoundNode, IsBoundWhen, bound_value, bound_each, bound_whens, bound_here, when_here, given_scope, row_alone, over_rows}

-- what is had of an answer, by another name
pub renamed : (r : Result Bound Memory) (f h : Given → Cell) → IfOk r (Means f) → ((g : Given) → f g ≡ h g) → IfOk r (Means h)
renamed r f h m e = IfOk-weaker r (Means f) (Means h) (λ b p g. p g ∙ e g) m

-- the value of an expression's node
pub of-binary : (e : Expr) (op : Op) (left right l r : Expr) (s : Scope) → e ≡ expr.Binary op left right → l ≡ left → r ≡ right → op_value op (Ev l s) (Ev r s) ≡ Ev_node e s
unfolding roll-Expr denote.Hole.Carrier.roll
of-binary e op left right l r s is f g = ap (λ x. op_value op (Ev x s) (Ev r s)) f ∙ ap (λ x. op_value op (Ev left s) (Ev x s)) g ∙ sym (ap (λ d. node_value (valued d) s) (out-roll-Expr (open_expr.Binary op left right))) ∙ ap (λ x. Ev_node x s) (sym is)

pub of-neg : (e value x : Expr) (s : Scope) → e ≡ expr.Neg value → x ≡ value → negative (Ev x s) ≡ Ev_node e s
unfolding roll-Expr denote.Hole.Carrier.roll
of-neg e value x s is f = ap (λ x. negative (Ev x s)) f ∙ sym (ap (λ d. node_value (valued d) s) (out-roll-Expr (open_expr.Neg value))) ∙ ap (λ x. Ev_node x s) (sym is)

pub of-not : (e value x : Expr) (s : Scope) → e ≡ expr.Not value → x ≡ value → opposite (Ev x s) ≡ Ev_node e s
unfolding roll-Expr denote.Hole.Carrier.roll
of-not e value x s is f = ap (λ x. opposite (Ev x s)) f ∙ sym (ap (λ d. node_value (valued d) s) (out-roll-Expr (open_expr.Not value))) ∙ ap (λ x. Ev_node x s) (sym is)

pub of-is_null : (e value x : Expr) (s : Scope) → e ≡ expr.IsNull value → x ≡ value → cell.Bool (is_null (Ev x s)) ≡ Ev_node e s
unfolding roll-Expr denote.Hole.Carrier.roll
of-is_null e value x s is f = ap (λ x. cell.Bool (is_null (Ev x s))) f ∙ sym (ap (λ d. node_value (valued d) s) (out-roll-Expr (open_expr.IsNull value))) ∙ ap (λ x. Ev_node x s) (sym is)

pub of-between : (e value low high x a b : Expr) (s : Scope) → e ≡ expr.Between value low high → x ≡ value → a ≡ low → b ≡ high → between (Ev x s) (Ev a s) (Ev b s) ≡ Ev_node e s
unfolding roll-Expr denote.Hole.Carrier.roll
of-between e value low high x a b s is f g h = ap (λ x. between (Ev x s) (Ev a s) (Ev b s)) f ∙ ap (λ a. between (Ev value s) (Ev a s) (Ev b s)) g ∙ ap (λ b. between (Ev value s) (Ev low s) (Ev b s)) h ∙ sym (ap (λ d. node_value (valued d) s) (out-roll-Expr (open_expr.Between value low high))) ∙ ap (λ x. Ev_node x s) (sym is)

pub of-one_of : (e value x : Expr) (all xs : List Expr) (s : Scope) → e ≡ expr.OneOf value all → x ≡ value → xs ≡ all → one_of (Ev x s) (Ev_each xs s) ≡ Ev_node e s
unfolding roll-Expr denote.Hole.Carrier.roll
of-one_of e value x all xs s is f g = ap (λ x. one_of (Ev x s) (Ev_each xs s)) f ∙ ap (λ xs. one_of (Ev value s) (Ev_each xs s)) g ∙ sym (ap (λ d. node_value (valued d) s) (out-roll-Expr (open_expr.OneOf value all))) ∙ ap (λ x. Ev_node x s) (sym is)

pub of-cast : (e : Expr) (to : ColType) (value x : Expr) (s : Scope) → e ≡ expr.Cast to value → x ≡ value → cast_value to (Ev x s) ≡ Ev_node e s
unfolding roll-Expr denote.Hole.Carrier.roll
of-cast e to value x s is f = ap (λ x. cast_value to (Ev x s)) f ∙ sym (ap (λ d. node_value (valued d) s) (out-roll-Expr (open_expr.Cast to value))) ∙ ap (λ x. Ev_node x s) (sym is)

pub of-call : (e : Expr) (func : Func) (args xs : List Expr) (s : Scope) → e ≡ expr.Call func args → xs ≡ args → func_value func (Ev_each xs s) ≡ Ev_node e s
of-call e func args xs s is f = ap (λ xs. func_value func (Ev_each xs s)) f ∙ sym (Ev_call func args s) ∙ ap (λ x. Ev_node x s) (sym is)

pub of-agg : (e : Expr) (kind : AggKind) (value x : Expr) (s : Scope) → e ≡ expr.Agg kind value → x ≡ value → over_group (λ rows. agg_value kind (map (λ row. Ev x (at_row s.bounds row)) rows)) s.group ≡ Ev_node e s
of-agg e kind value x s is f = sym (Ev_agg kind x s) ∙ ap (λ v. Ev_node (expr.Agg kind v) s) f ∙ ap (λ x. Ev_node x s) (sym is)

pub of-literal : (e : Expr) (c : Cell) (s : Scope) → e ≡ expr.Literal c → c ≡ Ev_node e s
unfolding roll-Expr denote.Hole.Carrier.roll
of-literal e c s is = sym (ap (λ d. node_value (valued d) s) (out-roll-Expr (open_expr.Literal c))) ∙ ap (λ x. Ev_node x s) (sym is)

pub of-macro : (e : Expr) (var : Var) (s : Scope) → e ≡ expr.Macro var → macro_value var s.bounds ≡ Ev_node e s
unfolding roll-Expr denote.Hole.Carrier.roll
of-macro e var s is = sym (ap (λ d. node_value (valued d) s) (out-roll-Expr (open_expr.Macro var))) ∙ ap (λ x. Ev_node x s) (sym is)

pub of-col : (e : Expr) (item : ℕ) (name : List ℕ) (s : Scope) → e ≡ expr.Col item name → s.column item name ≡ Ev_node e s
unfolding roll-Expr denote.Hole.Carrier.roll
of-col e item name s is = sym (ap (λ d. node_value (valued d) s) (out-roll-Expr (open_expr.Col item name))) ∙ ap (λ x. Ev_node x s) (sym is)

pub of-case : (e otherwise x : Expr) (whens ws : List When) (s : Scope) → e ≡ expr.Case whens otherwise → ws ≡ whens → x ≡ otherwise → case_value (Ev_whens ws s) (Ev x s) ≡ Ev_node e s
of-case e otherwise x whens ws s is f g = (λ i. case_value (Ev_whens (f i) s) (Ev (g i) s)) ∙ sym (Ev_case whens otherwise s) ∙ ap (λ x. Ev_node x s) (sym is)

pub of-count : (e : Expr) (s : Scope) → e ≡ expr.CountAll → over_group count_of s.group ≡ Ev_node e s
unfolding roll-Expr denote.Hole.Carrier.roll
of-count e s is = sym (ap (λ d. node_value (valued d) s) (out-roll-Expr open_expr.CountAll)) ∙ ap (λ x. Ev_node x s) (sym is)

-- a group's rows, as they are given and as an expression sees them
pub over-seen : (columns : List (List Column)) (value : List Cell → Cell) (f : Joined → Cell) (h : Seen → Cell) → ((row : Joined) → f row ≡ h (seen columns row))
    → (group : Option (List Joined)) → over_rows (λ rows. value (map f rows)) group ≡ over_group (λ rows. value (map h rows)) (option_map (map (seen columns)) group)
over-seen columns value f h e None = refl
over-seen columns value f h e (Some rows) = ap value (go rows)
  where
    go : (rows : List Joined) → map f rows ≡ map h (map (seen columns) rows)
    go [] = refl
    go (row ∷ rows) = λ i. e row i ∷ go rows i

pub count-seen : (columns : List (List Column)) (group : Option (List Joined)) → over_rows count_of group ≡ over_group count_of (option_map (map (seen columns)) group)
count-seen columns None = refl
count-seen columns (Some rows) = ap (λ n. cell.Int (pos n)) (sym (length-map rows (seen columns)))

-- the equations of `bound_value`
pub value_of_lies : (spot : Option Spot) (g : Given) → bound_value (bound.Lies spot) g ≡ cell_at spot g.row
unfolding roll-Bound denote.Hole.Carrier.roll
value_of_lies spot g = ap (λ f. f g) (fold-roll-Bound (Given → Cell) (Given → Cell × Cell) bound_here when_here (Lies spot))

pub value_of_known : (c : Cell) (g : Given) → bound_value (bound.Known c) g ≡ c
unfolding roll-Bound denote.Hole.Carrier.roll
value_of_known c g = ap (λ f. f g) (fold-roll-Bound (Given → Cell) (Given → Cell × Cell) bound_here when_here (Known c))

pub value_of_key : (k : ℕ) (g : Given) → bound_value (bound.Key k) g ≡ slice_index_or g.key_values k cell.Null
unfolding roll-Bound denote.Hole.Carrier.roll
value_of_key k g = ap (λ f. f g) (fold-roll-Bound (Given → Cell) (Given → Cell × Cell) bound_here when_here (Key k))

pub value_of_binary : (op : Op) (a b : Bound) (g : Given) → bound_value (bound.Binary op a b) g ≡ op_value op (bound_value a g) (bound_value b g)
unfolding roll-Bound denote.Hole.Carrier.roll
value_of_binary op a b g = ap (λ f. f g) (fold-roll-Bound (Given → Cell) (Given → Cell × Cell) bound_here when_here (Binary op a b))

pub value_of_neg : (a : Bound) (g : Given) → bound_value (bound.Neg a) g ≡ negative (bound_value a g)
unfolding roll-Bound denote.Hole.Carrier.roll
value_of_neg a g = ap (λ f. f g) (fold-roll-Bound (Given → Cell) (Given → Cell × Cell) bound_here when_here (Neg a))

pub value_of_not : (a : Bound) (g : Given) → bound_value (bound.Not a) g ≡ opposite (bound_value a g)
unfolding roll-Bound denote.Hole.Carrier.roll
value_of_not a g = ap (λ f. f g) (fold-roll-Bound (Given → Cell) (Given → Cell × Cell) bound_here when_here (Not a))

pub value_of_is_null : (a : Bound) (g : Given) → bound_value (bound.IsNull a) g ≡ cell.Bool (is_null (bound_value a g))
unfolding roll-Bound denote.Hole.Carrier.roll
value_of_is_null a g = ap (λ f. f g) (fold-roll-Bound (Given → Cell) (Given → Cell × Cell) bound_here when_here (IsNull a))

pub value_of_between : (a low high : Bound) (g : Given) → bound_value (bound.Between a low high) g ≡ between (bound_value a g) (bound_value low g) (bound_value high g)
unfolding roll-Bound denote.Hole.Carrier.roll
value_of_between a low high g = ap (λ f. f g) (fold-roll-Bound (Given → Cell) (Given → Cell × Cell) bound_here when_here (Between a low high))

pub value_of_one_of : (a : Bound) (all : List Bound) (g : Given) → bound_value (bound.OneOf a all) g ≡ one_of (bound_value a g) (bound_each all g)
unfolding roll-Bound denote.Hole.Carrier.roll
value_of_one_of a all g = ap (λ f. f g) (fold-roll-Bound (Given → Cell) (Given → Cell × Cell) bound_here when_here (OneOf a all))

pub value_of_cast : (to : ColType) (a : Bound) (g : Given) → bound_value (bound.Cast to a) g ≡ cast_value to (bound_value a g)
unfolding roll-Bound denote.Hole.Carrier.roll
value_of_cast to a g = ap (λ f. f g) (fold-roll-Bound (Given → Cell) (Given → Cell × Cell) bound_here when_here (Cast to a))

pub value_of_call : (func : Func) (args : List Bound) (g : Given) → bound_value (bound.Call func args) g ≡ func_value func (bound_each args g)
unfolding roll-Bound denote.Hole.Carrier.roll
value_of_call func args g = ap (λ f. f g) (fold-roll-Bound (Given → Cell) (Given → Cell × Cell) bound_here when_here (Call func args))

pub value_of_case : (whens : List BoundWhen) (otherwise : Bound) (g : Given) → bound_value (bound.Case whens otherwise) g ≡ case_value (bound_whens whens g) (bound_value otherwise g)
unfolding roll-Bound denote.Hole.Carrier.roll
value_of_case whens otherwise g = ap (λ f. f g) (fold-roll-Bound (Given → Cell) (Given → Cell × Cell) bound_here when_here (Case whens otherwise))

pub value_of_count : (g : Given) → bound_value bound.CountAll g ≡ over_rows count_of g.group
unfolding roll-Bound denote.Hole.Carrier.roll
value_of_count g = ap (λ f. f g) (fold-roll-Bound (Given → Cell) (Given → Cell × Cell) bound_here when_here CountAll)

pub value_of_agg : (kind : AggKind) (a : Bound) (g : Given) → bound_value (bound.Agg kind a) g ≡ over_rows (λ rows. agg_value kind (map (λ row. bound_value a (row_alone row)) rows)) g.group
unfolding roll-Bound denote.Hole.Carrier.roll
value_of_agg kind a g = ap (λ f. f g) (fold-roll-Bound (Given → Cell) (Given → Cell × Cell) bound_here when_here (Agg kind a))

pub value_of_plain : (a : Bound) (g : Given) → bound_value (bound.Plain a) g ≡ bound_value a g
unfolding roll-Bound denote.Hole.Carrier.roll
value_of_plain a g = ap (λ f. f g) (fold-roll-Bound (Given → Cell) (Given → Cell × Cell) bound_here when_here (Plain a))

-- what bound parts give, bound
pub agg_means : (kind : AggKind) (value : Result Bound Memory) (v : Bound) (f : Given → Cell) → value ≡ Ok v → IfOk value (Means f)
    → Means (λ g. over_rows (λ rows. agg_value kind (map (λ row. f (row_alone row)) rows)) g.group) (bound.Agg kind v)
agg_means kind value v f is h = λ g.
    let k : Means f v = subst (λ r. IfOk r (Means f)) is h in
    value_of_agg kind v g ∙ (λ i. over_rows (λ rows. agg_value kind (map (λ row. k (row_alone row) i) rows)) g.group)

pub key_means : (u : Bounds) (columns : List (List Column)) (keys : List Expr) (e : Expr) (k : ℕ) → position (λ key. same_expr key e) keys ≡ Some k → IsBound u columns keys e (bound.Key k)
key_means u columns keys e k p = λ g.
    let s = given_scope u columns keys g in
    value_of_key k g ∙ sym (Ev_out e s ∙ ap (λ o. key_or s o (Ev_node e s)) p)

pub count_means : (u : Bounds) (columns : List (List Column)) (keys : List Expr) (e : Expr) → e ≡ expr.CountAll → IsBoundNode u columns keys e bound.CountAll
count_means u columns keys e is = λ g. value_of_count g ∙ count-seen columns g.group ∙ of-count e (given_scope u columns keys g) is

pub when_means : (u : Bounds) (columns : List (List Column)) (keys : List Expr) (w : When) (r : Result BoundWhen Memory)
    → IfOk r (WhenMeans (λ g. (Ev w.test (given_scope u columns keys g), Ev w.value (given_scope u columns keys g)))) → IfOk r (IsBoundWhen u columns keys w)
when_means u columns keys w r h = IfOk-weaker r _ (IsBoundWhen u columns keys w) (λ made p g. p g ∙ sym (Ev_when_is w (given_scope u columns keys g))) h
