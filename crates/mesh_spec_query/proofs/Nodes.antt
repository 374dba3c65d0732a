-- The equations of `Ev`.
use Rattle.std.proofs.Common.{◌≡◌, ℕ, zero, suc, ◌<◌, ◌≤◌, nat_lt, Bool, true, false, cond, List, [], ◌∷◌, map, length, get_or, slice_index_or, refl, ap, sym, ◌∙◌, arith}
use Rattle.mesh_base_values.specs.declared.times.Bounds.{Bounds}
use Rattle.mesh_base_values.specs.declared.values.Cell.{Cell}
use Rattle.mesh_base_values.specs.declared.values.Cell.TheVariants.{Null, Bool as Truth}
use Rattle.mesh_base_values.specs.declared.values.ColType.{ColType}
use Rattle.mesh_base_values.specs.declared.values.Column.{Column}
use Rattle.mesh_base.specs.declared.expressions.Expr.{Expr, para-Expr, roll-Expr, out-Expr, roll-out-Expr, out-roll-Expr, para-roll-Expr}
use Rattle.mesh_base.specs.declared.expressions.Expr as expr
use Rattle.mesh_base.specs.declared.expressions.Expr.TheOpen.{Expr-F, Literal, Col, Macro, Binary, Neg, Not, IsNull, Between, OneOf, Cast, Call, Case, CountAll, Agg}
use Rattle.mesh_base.specs.declared.expressions.When.{When, para-roll-When, out-When, roll-out-When}
use Rattle.std.specs.declared.option.Option.TheVariants.{None, Some}
use Rattle.std.specs.List.{Contains, fold, position, position_or_len}
use Rattle.std.specs.Option.{unwrap_or}
use Rattle.std.specs.declared.option.Option.{Option}
use Rattle.std.proofs.lemmas.List.Quantifiers.{position-Some}
use Rattle.std.proofs.lemmas.List.Sums.{fails_before_first}
use Rattle.std.proofs.lemmas.Bool.{ltb-false}
use Rattle.mesh_base.specs.declared.expressions.Func.{Func}
use Rattle.mesh_base.specs.declared.expressions.AggKind.{AggKind}
use Rattle.mesh_base.specs.declared.expressions.Op.{Op}
use Rattle.mesh_base.specs.declared.expressions.Var.{Var}
use Rattle.mesh_time_days.specs.casts.Casts.{cast_value}
use Rattle.mesh_spec_query.specs.Cells.{is_null, op_value, negative, opposite, between, one_of, func_value, case_value, chosen}
use Rattle.mesh_spec_query.specs.Aggregates.{agg_value, count_of}
use Rattle.mesh_spec_query.specs.Macros.{macro_value}
use Rattle.mesh_spec_query.specs.Sel.{Joined, group_scope, key_list, row_scope}
use Rattle.mesh_base.proofs.Equal.{exact, is_equality}
use Rattle.mesh_spec_query.specs.Ev.{same_expr, Ev_each, Ev_whens, over_group, at_row, Scope, Seen, Value, Ev, Ev_when, Ev_node, ev_here, when_value, valued, node_of, key_of, key_or, node_value}

firsts : {X Y : Type 0} (f : X → Y) (xs : List X) → map (λ (p : X × Y). p.0) (map (λ x. (x, f x)) xs) ≡ xs
firsts f [] = refl
firsts f (x ∷ xs) = ap (λ l. x ∷ l) (firsts f xs)

node_of_valued : (d : Expr-F Expr When) → node_of (valued d) ≡ d
node_of_valued (Literal cell) = refl
node_of_valued (Col item name) = refl
node_of_valued (Macro var) = refl
node_of_valued (Binary op left right) = refl
node_of_valued (Neg value) = refl
node_of_valued (Not value) = refl
node_of_valued (IsNull value) = refl
node_of_valued (Between value low high) = refl
node_of_valued (OneOf value of) = ap (OneOf value) (firsts Ev of)
node_of_valued (Cast to value) = refl
node_of_valued (Call func args) = ap (Call func) (firsts Ev args)
node_of_valued (Case whens otherwise) = ap (λ w. Case w otherwise) (firsts Ev_when whens)
node_of_valued CountAll = refl
node_of_valued (Agg kind value) = refl

Ev_roll : (d : Expr-F Expr When) → Ev (roll-Expr d) ≡ ev_here (valued d)
Ev_roll d = para-roll-Expr Value (Scope → Cell × Cell) ev_here when_value d

-- a key's value, else the value of the node
pub Ev_out : (e : Expr) (s : Scope) → Ev e s ≡ key_or s (key_of s e) (Ev_node e s)
Ev_out e s =
    ap (λ x. Ev x s) (sym (roll-out-Expr e)) ∙ ap (λ v. v s) (Ev_roll (out-Expr e))
    ∙ ap (λ n. key_or s (key_of s (roll-Expr n)) (Ev_node e s)) (node_of_valued (out-Expr e))
    ∙ ap (λ f. key_or s (key_of s f) (Ev_node e s)) (roll-out-Expr e)

pub Ev_when_is : (w : When) (s : Scope) → Ev_when w s ≡ (Ev w.test s, Ev w.value s)
Ev_when_is w s = ap (λ x. Ev_when x s) (sym (roll-out-When w)) ∙ ap (λ v. v s) (para-roll-When Value (Scope → Cell × Cell) ev_here when_value (out-When w))

pub Ev_call : (func : Func) (args : List Expr) (s : Scope) → Ev_node (expr.Call func args) s ≡ func_value func (Ev_each args s)
unfolding roll-Expr denote.Hole.Carrier.roll
Ev_call func args s = ap (λ d. node_value (valued d) s) (out-roll-Expr (Call func args))

pub Ev_case : (whens : List When) (otherwise : Expr) (s : Scope) → Ev_node (expr.Case whens otherwise) s ≡ unwrap_or (fold chosen None (Ev_whens whens s)) (Ev otherwise s)
unfolding roll-Expr denote.Hole.Carrier.roll
Ev_case whens otherwise s = ap (λ d. node_value (valued d) s) (out-roll-Expr (Case whens otherwise))

pub Ev_agg : (kind : AggKind) (value : Expr) (s : Scope) → Ev_node (expr.Agg kind value) s ≡ over_group (λ rows. agg_value kind (map (λ row. Ev value (at_row s.bounds row)) rows)) s.group
unfolding roll-Expr denote.Hole.Carrier.roll
Ev_agg kind value s = ap (λ d. node_value (valued d) s) (out-roll-Expr (Agg kind value))

Ev_literal : (c : Cell) (s : Scope) → Ev_node (expr.Literal c) s ≡ c
unfolding roll-Expr denote.Hole.Carrier.roll
Ev_literal c s = ap (λ d. node_value (valued d) s) (out-roll-Expr (Literal c))

Ev_col : (item : ℕ) (name : List ℕ) (s : Scope) → Ev_node (expr.Col item name) s ≡ s.column item name
unfolding roll-Expr denote.Hole.Carrier.roll
Ev_col item name s = ap (λ d. node_value (valued d) s) (out-roll-Expr (Col item name))

Ev_macro : (var : Var) (s : Scope) → Ev_node (expr.Macro var) s ≡ macro_value var s.bounds
unfolding roll-Expr denote.Hole.Carrier.roll
Ev_macro var s = ap (λ d. node_value (valued d) s) (out-roll-Expr (Macro var))

Ev_binary : (op : Op) (a b : Expr) (s : Scope) → Ev_node (expr.Binary op a b) s ≡ op_value op (Ev a s) (Ev b s)
unfolding roll-Expr denote.Hole.Carrier.roll
Ev_binary op a b s = ap (λ d. node_value (valued d) s) (out-roll-Expr (Binary op a b))

Ev_neg : (a : Expr) (s : Scope) → Ev_node (expr.Neg a) s ≡ negative (Ev a s)
unfolding roll-Expr denote.Hole.Carrier.roll
Ev_neg a s = ap (λ d. node_value (valued d) s) (out-roll-Expr (Neg a))

Ev_not : (a : Expr) (s : Scope) → Ev_node (expr.Not a) s ≡ opposite (Ev a s)
unfolding roll-Expr denote.Hole.Carrier.roll
Ev_not a s = ap (λ d. node_value (valued d) s) (out-roll-Expr (Not a))

Ev_is_null : (a : Expr) (s : Scope) → Ev_node (expr.IsNull a) s ≡ Truth (is_null (Ev a s))
unfolding roll-Expr denote.Hole.Carrier.roll
Ev_is_null a s = ap (λ d. node_value (valued d) s) (out-roll-Expr (IsNull a))

Ev_between : (a low high : Expr) (s : Scope) → Ev_node (expr.Between a low high) s ≡ between (Ev a s) (Ev low s) (Ev high s)
unfolding roll-Expr denote.Hole.Carrier.roll
Ev_between a low high s = ap (λ d. node_value (valued d) s) (out-roll-Expr (Between a low high))

Ev_one_of : (a : Expr) (all : List Expr) (s : Scope) → Ev_node (expr.OneOf a all) s ≡ one_of (Ev a s) (Ev_each all s)
unfolding roll-Expr denote.Hole.Carrier.roll
Ev_one_of a all s = ap (λ d. node_value (valued d) s) (out-roll-Expr (OneOf a all))

Ev_cast : (kind : ColType) (a : Expr) (s : Scope) → Ev_node (expr.Cast kind a) s ≡ cast_value kind (Ev a s)
unfolding roll-Expr denote.Hole.Carrier.roll
Ev_cast kind a s = ap (λ d. node_value (valued d) s) (out-roll-Expr (Cast kind a))

Ev_count : (s : Scope) → Ev_node expr.CountAll s ≡ over_group count_of s.group
unfolding roll-Expr denote.Hole.Carrier.roll
Ev_count s = ap (λ d. node_value (valued d) s) (out-roll-Expr CountAll)

each_is : (all : List Expr) (s : Scope) → Ev_each all s ≡ map (λ e. Ev e s) all
each_is [] s = refl
each_is (e ∷ es) s = ap (λ l. Ev e s ∷ l) (each_is es s)

whens_are : (all : List When) (s : Scope) → Ev_whens all s ≡ map (λ (w : When). (Ev w.test s, Ev w.value s)) all
whens_are [] s = refl
whens_are (w ∷ ws) s = λ i. Ev_when_is w s i ∷ whens_are ws s i

-- where no key equals it, an expression has the value of its node
abbrev IsNoKey : Scope → Expr → Type 0
IsNoKey s e = ¬ Contains s.keys e

no_key : (keys : List Expr) (e : Expr) → ¬ Contains keys e → position (λ key. same_expr key e) keys ≡ None
no_key keys e h = go (position (λ key. same_expr key e) keys) refl
  where
    go : (o : Option ℕ) → position (λ key. same_expr key e) keys ≡ o → o ≡ None
    go None p = refl
    go (Some k) p = let found = position-Some (λ key. same_expr key e) keys k e p in absurd (h (k, found.0, exact (get_or keys k e) e found.1))

unkeyed : (e : Expr) (s : Scope) → IsNoKey s e → Ev e s ≡ Ev_node e s
unkeyed e s h = Ev_out e s ∙ ap (λ o. key_or s o (Ev_node e s)) (no_key s.keys e h)

pub of_literal : (c : Cell) (s : Scope) → IsNoKey s (expr.Literal c) → Ev (expr.Literal c) s ≡ c
of_literal c s h = unkeyed (expr.Literal c) s h ∙ Ev_literal c s

pub of_column : (item : ℕ) (name : List ℕ) (s : Scope) → IsNoKey s (expr.Col item name) → Ev (expr.Col item name) s ≡ s.column item name
of_column item name s h = unkeyed (expr.Col item name) s h ∙ Ev_col item name s

pub of_macro : (var : Var) (s : Scope) → IsNoKey s (expr.Macro var) → Ev (expr.Macro var) s ≡ macro_value var s.bounds
of_macro var s h = unkeyed (expr.Macro var) s h ∙ Ev_macro var s

pub of_binary : (op : Op) (a b : Expr) (s : Scope) → IsNoKey s (expr.Binary op a b) → Ev (expr.Binary op a b) s ≡ op_value op (Ev a s) (Ev b s)
of_binary op a b s h = unkeyed (expr.Binary op a b) s h ∙ Ev_binary op a b s

pub of_neg : (a : Expr) (s : Scope) → IsNoKey s (expr.Neg a) → Ev (expr.Neg a) s ≡ negative (Ev a s)
of_neg a s h = unkeyed (expr.Neg a) s h ∙ Ev_neg a s

pub of_not : (a : Expr) (s : Scope) → IsNoKey s (expr.Not a) → Ev (expr.Not a) s ≡ opposite (Ev a s)
of_not a s h = unkeyed (expr.Not a) s h ∙ Ev_not a s

pub of_is_null : (a : Expr) (s : Scope) → IsNoKey s (expr.IsNull a) → Ev (expr.IsNull a) s ≡ Truth (is_null (Ev a s))
of_is_null a s h = unkeyed (expr.IsNull a) s h ∙ Ev_is_null a s

pub of_between : (a low high : Expr) (s : Scope) → IsNoKey s (expr.Between a low high) → Ev (expr.Between a low high) s ≡ between (Ev a s) (Ev low s) (Ev high s)
of_between a low high s h = unkeyed (expr.Between a low high) s h ∙ Ev_between a low high s

pub of_one_of : (a : Expr) (all : List Expr) (s : Scope) → IsNoKey s (expr.OneOf a all) → Ev (expr.OneOf a all) s ≡ one_of (Ev a s) (map (λ e. Ev e s) all)
of_one_of a all s h = unkeyed (expr.OneOf a all) s h ∙ Ev_one_of a all s ∙ ap (one_of (Ev a s)) (each_is all s)

pub of_cast : (kind : ColType) (a : Expr) (s : Scope) → IsNoKey s (expr.Cast kind a) → Ev (expr.Cast kind a) s ≡ cast_value kind (Ev a s)
of_cast kind a s h = unkeyed (expr.Cast kind a) s h ∙ Ev_cast kind a s

pub of_call : (func : Func) (args : List Expr) (s : Scope) → IsNoKey s (expr.Call func args) → Ev (expr.Call func args) s ≡ func_value func (map (λ e. Ev e s) args)
of_call func args s h = unkeyed (expr.Call func args) s h ∙ Ev_call func args s ∙ ap (func_value func) (each_is args s)

pub of_case : (whens : List When) (otherwise : Expr) (s : Scope) → IsNoKey s (expr.Case whens otherwise) → Ev (expr.Case whens otherwise) s ≡ case_value (map (λ (w : When). (Ev w.test s, Ev w.value s)) whens) (Ev otherwise s)
of_case whens otherwise s h = unkeyed (expr.Case whens otherwise) s h ∙ Ev_case whens otherwise s ∙ ap (λ l. case_value l (Ev otherwise s)) (whens_are whens s)

pub count_outside : (s : Scope) → IsNoKey s expr.CountAll → s.group ≡ None → Ev expr.CountAll s ≡ Null
count_outside s h g = unkeyed expr.CountAll s h ∙ Ev_count s ∙ ap (over_group count_of) g

pub count_inside : (s : Scope) (rows : List Seen) → IsNoKey s expr.CountAll → s.group ≡ Some rows → Ev expr.CountAll s ≡ count_of rows
count_inside s rows h g = unkeyed expr.CountAll s h ∙ Ev_count s ∙ ap (over_group count_of) g

pub agg_outside : (kind : AggKind) (a : Expr) (s : Scope) → IsNoKey s (expr.Agg kind a) → s.group ≡ None → Ev (expr.Agg kind a) s ≡ Null
agg_outside kind a s h g = unkeyed (expr.Agg kind a) s h ∙ Ev_agg kind a s ∙ ap (over_group (λ rows. agg_value kind (map (λ row. Ev a (at_row s.bounds row)) rows))) g

pub agg_inside : (kind : AggKind) (a : Expr) (s : Scope) (rows : List Seen) → IsNoKey s (expr.Agg kind a) → s.group ≡ Some rows → Ev (expr.Agg kind a) s ≡ agg_value kind (map (λ row. Ev a (at_row s.bounds row)) rows)
agg_inside kind a s rows h g = unkeyed (expr.Agg kind a) s h ∙ Ev_agg kind a s ∙ ap (over_group (λ rows. agg_value kind (map (λ row. Ev a (at_row s.bounds row)) rows))) g

-- where some key equals it, an expression has that key's value
abbrev KeyAt : List Expr → Expr → Scope → Type 0
KeyAt keys e s = (k : ℕ) × (position (λ key. same_expr key e) keys ≡ Some k) × (slice_index_or (Ev_each keys s) k Null ≡ Ev e s)

-- where none is found, none passes
none_passes : (test : Expr → Bool) (keys : List Expr) → position test keys ≡ None → (n : ℕ) (d : Expr) → n < length keys → test (get_or keys n d) ≡ true → ⊥
none_passes test keys p n d l t = go (nat_lt (position_or_len test keys) (length keys)) refl p
  where
    go : (b : Bool) → nat_lt (position_or_len test keys) (length keys) ≡ b → ◌≡◌ {A = Option ℕ} (cond b (Some (position_or_len test keys)) None) None → ⊥
    go true e q = cc
    go false e q = let far : length keys ≤ position_or_len test keys = ltb-false (position_or_len test keys) (length keys) e in let fails = fails_before_first test keys n d (omega arith) in cc

value_at : (keys : List Expr) (k : ℕ) (d : Expr) (s : Scope) → k < length keys → get_or (Ev_each keys s) k Null ≡ Ev (get_or keys k d) s
value_at [] k d s l = absurd (omega arith)
value_at (e ∷ keys) zero d s l = refl
value_at (e ∷ keys) (suc k) d s l = value_at keys k d s (omega arith)

key_at : (keys : List Expr) (e : Expr) (s : Scope) → Contains keys e → KeyAt keys e s
key_at keys e s (n, l, h) = go (position (λ key. same_expr key e) keys) refl
  where
    go : (o : Option ℕ) → position (λ key. same_expr key e) keys ≡ o → KeyAt keys e s
    go None p = absurd (none_passes (λ key. same_expr key e) keys p n e l ((is_equality (get_or keys n e) e).1 h))
    go (Some k) p = let found = position-Some (λ key. same_expr key e) keys k e p in (k, p, value_at keys k e s found.0 ∙ ap (λ z. Ev z s) (exact (get_or keys k e) e found.1))

pub of_key : (u : Bounds) (columns : List (List Column)) (keys : List Expr) (row : Joined) (rows : List Joined) (e : Expr) → Contains keys e
    → Ev e (group_scope u columns keys (record { key_values = key_list u columns keys row; rows = rows })) ≡ Ev e (row_scope u columns row)
of_key u columns keys row rows e h =
    let s : Scope = group_scope u columns keys (record { key_values = key_list u columns keys row; rows = rows }) in
    let (k, p, v) = key_at keys e (row_scope u columns row) h in
    Ev_out e s ∙ ap (λ o. key_or s o (Ev_node e s)) p ∙ v
