-- Each form of an expression, over its operands: the types that it asks for, the type that it has, and what it becomes.
use Rattle.std.specs.Prelude.{ℕ, Bool, true, false, ◌&&◌, ◌||◌, List, [], ◌∷◌, ◌++◌, map, Result, Ok, Err, if◌then◌else◌}
use Rattle.std.specs.List.{list_all, list_any, flat_map}
use Rattle.std.specs.declared.option.Option.{Option}
use Rattle.std.specs.declared.option.Option.TheVariants.{None, Some}
use Rattle.mesh_base_values.specs.declared.values.ColType.{ColType}
use Rattle.mesh_base_values.specs.declared.values.ColType.TheVariants.{Int, Text, Bool as Truth}
use Rattle.mesh_base_values.specs.declared.values.Cell.TheVariants as cell
use Rattle.mesh_base.specs.declared.expressions.Expr.{Expr}
use Rattle.mesh_base.specs.declared.expressions.Expr as expr
use Rattle.mesh_base.specs.declared.expressions.When.{When}
use Rattle.mesh_base.specs.declared.expressions.Op.{Op}
use Rattle.mesh_base.specs.declared.expressions.Op.TheVariants as op
use Rattle.mesh_base.specs.declared.expressions.Func.{Func}
use Rattle.mesh_base.specs.declared.expressions.Func.TheVariants as func
use Rattle.mesh_base.specs.declared.expressions.AggKind.{AggKind}
use Rattle.mesh_base.specs.declared.expressions.AggKind.TheVariants as agg
use Rattle.mesh_query_grammar.specs.declared.surface.signs.Cmp.{Cmp}
use Rattle.mesh_query_grammar.specs.declared.surface.signs.Cmp.TheVariants as cmp
use Rattle.mesh_query_grammar.specs.declared.surface.signs.AddSign.{AddSign}
use Rattle.mesh_query_grammar.specs.declared.surface.signs.AddSign.TheVariants as sign
use Rattle.mesh_query_grammar.specs.declared.surface.signs.MulSign.{MulSign}
use Rattle.mesh_query_grammar.specs.declared.surface.signs.MulSign.TheVariants as factor
use Rattle.mesh_query_grammar.specs.declared.surface.signs.Function.{Function}
use Rattle.mesh_query_grammar.specs.declared.surface.signs.Function.TheVariants as function
use Rattle.mesh_query_tokens.specs.Gives.{◌>>=◌}
use Rattle.mesh_query_tokens.specs.declared.faults.ReadFault.{ReadFault}
use Rattle.mesh_resolve_types.specs.declared.typed.Typed.{Typed}
use Rattle.mesh_resolve_types.specs.Faults.{mismatch, unwritten}
use Rattle.mesh_query_tokens.specs.Walk.{provided, all_of}
use Rattle.mesh_resolve_types.specs.rules.Kinds.{Kind, may_be, are_alike, first_kind, are_one_kind, sum_kind, may_cast}
use Rattle.mesh_resolve_types.specs.Kinds.{kind_of, is_date, as_date, dated}

-- an expression of a type, or its fault
abbrev pub Read : Type 0
Read = Result Typed ReadFault

abbrev pub expr_of : Typed → Expr
expr_of t = t.expr

abbrev pub marks_of : Typed → List ℕ
marks_of t = t.marks

abbrev pub all_marks : List Typed → List ℕ
all_marks ts = flat_map marks_of ts

-- an expression of its parts
abbrev pub with_parts : ℕ → Kind → Expr → List ℕ → Typed
with_parts at kind e marks = record { at = at; kind = kind; expr = e; marks = marks }

-- one without columns and aggregates
abbrev pub leaf : ℕ → Kind → Expr → Typed
leaf at kind e = with_parts at kind e []

-- an operator over one operand, and over two
abbrev pub over_one : ℕ → ColType → Expr → Typed → Typed
over_one at kind e t = record { at = at; kind = Some kind; expr = e; marks = t.marks }

abbrev pub over_two : ℕ → ColType → Op → Typed → Typed → Typed
over_two at kind o left right =
    record { at = at; kind = Some kind; expr = expr.Binary o left.expr right.expr; marks = left.marks ++ right.marks }

-- both operands are of one type, and so is the whole
unfoldable pub uniform : ColType → Op → ℕ → Typed → Typed → Read
uniform kind o at left right =
    provided (may_be kind left.kind && may_be kind right.kind) (over_two at kind o left right) (mismatch at)

-- AND, OR and || over BOOL and TEXT; * / and % over INT
abbrev pub either : ℕ → Typed → Typed → Read
either = uniform Truth op.Or

abbrev pub both : ℕ → Typed → Typed → Read
both = uniform Truth op.And

abbrev pub joined : ℕ → Typed → Typed → Read
joined = uniform Text op.Cat

abbrev pub factor_op : MulSign → Op
factor_op factor.Times = op.Mul
factor_op factor.Over = op.Div
factor_op factor.Modulo = op.Rem

abbrev pub multiplied : MulSign → ℕ → Typed → Typed → Read
multiplied s = uniform Int (factor_op s)

abbrev pub sum_op : AddSign → Op
sum_op sign.Plus = op.Add
sum_op sign.Minus = op.Sub

abbrev pub sum_of_kind : AddSign → ℕ → Typed → Typed → Option ColType → Read
sum_of_kind s at left right None = Err (mismatch at)
sum_of_kind s at left right (Some kind) = Ok (over_two at kind (sum_op s) left right)

unfoldable pub added : AddSign → ℕ → Typed → Typed → Read
added s at left right = sum_of_kind s at left right (sum_kind s left.kind right.kind)

-- a minus before an INT, NOT before a BOOL
unfoldable pub negated : ℕ → Typed → Read
negated at t = provided (may_be Int t.kind) (over_one at Int (expr.Neg t.expr) t) (mismatch at)

unfoldable pub denied : ℕ → Typed → Read
denied at t = provided (may_be Truth t.kind) (over_one at Truth (expr.Not t.expr) t) (mismatch at)

-- IS NULL asks for no type
abbrev pub null_test : ℕ → Typed → Typed
null_test at t = over_one at Truth (expr.IsNull t.expr) t

-- what is negated is the NOT of the plain form
abbrev pub turned : Bool → Typed → Typed
turned false t = t
turned true t = record t { expr = expr.Not t.expr }

abbrev pub compare_op : Cmp → Op
compare_op cmp.Eq = op.Eq
compare_op cmp.Ne = op.Ne
compare_op cmp.Lt = op.Lt
compare_op cmp.Le = op.Le
compare_op cmp.Gt = op.Gt
compare_op cmp.Ge = op.Ge

-- both sides are of one type
abbrev pub compared_as_they_are : Op → ℕ → Typed → Typed → Read
compared_as_they_are o at left right =
    provided (are_alike left.kind right.kind) (over_two at Truth o left right) (mismatch at)

-- Where one side is a DATE, a text literal of a day on the other side is that DATE.
unfoldable pub compared : Op → ℕ → Typed → Typed → Read
compared o at left right =
    if is_date left then compared_as_they_are o at left (as_date right)
    else if is_date right then compared_as_they_are o at (as_date left) right
    else compared_as_they_are o at left right

-- BETWEEN compares the value with both ends; where one of the three is a DATE, the texts of all are
abbrev pub range : ℕ → Typed → Typed → Typed → Typed
range at t low high =
    record { at = at; kind = Some Truth; expr = expr.Between t.expr low.expr high.expr; marks = t.marks ++ (low.marks ++ high.marks) }

abbrev pub within : ℕ → Typed → Typed → Typed → Read
within at t low high = provided (are_alike t.kind low.kind && are_alike t.kind high.kind) (range at t low high) (mismatch at)

unfoldable pub between : ℕ → Typed → Typed → Typed → Read
between at t low high =
    let turn = is_date t || is_date low || is_date high in
    within at (dated turn t) (dated turn low) (dated turn high)

-- and IN with each member
abbrev pub are_all_alike : Kind → List Typed → Bool
are_all_alike kind ts = list_all (λ t. are_alike kind (kind_of t)) ts

abbrev pub member : ℕ → Typed → List Typed → Typed
member at t ts = record { at = at; kind = Some Truth; expr = expr.OneOf t.expr (map expr_of ts); marks = t.marks ++ all_marks ts }

abbrev pub among : ℕ → Typed → List Typed → Read
among at t ts = provided (are_all_alike t.kind ts) (member at t ts) (mismatch at)

unfoldable pub one_of : ℕ → Typed → List Typed → Read
one_of at t ts =
    let turn = is_date t || list_any is_date ts in
    among at (dated turn t) (map (dated turn) ts)

unfoldable pub cast : ℕ → ColType → Typed → Read
cast at to t = provided (may_cast to t.kind) (over_one at to (expr.Cast to t.expr) t) (mismatch at)

abbrev pub call : ℕ → Kind → Func → List Typed → Typed
call at kind f ts = record { at = at; kind = kind; expr = expr.Call f (map expr_of ts); marks = all_marks ts }

-- a function of one argument
abbrev pub unary : ℕ → Func → ColType → ColType → List Typed → Read
unary at f from to (t ∷ []) = provided (may_be from t.kind) (call at (Some to) f (t ∷ [])) (mismatch at)
unary at f from to _ = Err (unwritten at)

-- all arguments are of one type, and so is the whole
abbrev pub alternatives : ℕ → Func → List Typed → Read
alternatives at f ts =
    provided (are_one_kind (map kind_of ts)) (call at (first_kind (map kind_of ts)) f ts) (mismatch at)

-- an aggregate has a mark of its own, behind those of its operand
abbrev pub aggregate : ℕ → AggKind → Kind → Typed → Typed
aggregate at kind type t = record { at = at; kind = type; expr = expr.Agg kind t.expr; marks = t.marks ++ at ∷ [] }

-- the one argument
abbrev pub only : ℕ → List Typed → Read
only at (t ∷ []) = Ok t
only at _ = Err (unwritten at)

abbrev pub counted : ℕ → AggKind → Typed → Read
counted at kind t = Ok (aggregate at kind (Some Int) t)

abbrev pub summed : ℕ → Typed → Read
summed at t = provided (may_be Int t.kind) (aggregate at agg.Sum (Some Int) t) (mismatch at)

-- the least and the greatest are of their operand's type
abbrev pub extreme : ℕ → AggKind → Typed → Read
extreme at kind t = Ok (aggregate at kind t.kind t)

unfoldable pub called : ℕ → Function → List Typed → Read
called at function.Abs ts = unary at func.Abs Int Int ts
called at function.Length ts = unary at func.Length Text Int ts
called at function.Upper ts = unary at func.Upper Text Text ts
called at function.Lower ts = unary at func.Lower Text Text ts
called at function.Nullif ts = alternatives at func.Nullif ts
called at function.Coalesce ts = alternatives at func.Coalesce ts
called at function.Count ts = only at ts >>= counted at agg.Count
called at function.Sum ts = only at ts >>= summed at
called at function.Min ts = only at ts >>= extreme at agg.Min
called at function.Max ts = only at ts >>= extreme at agg.Max

-- `*` and DISTINCT stand in COUNT alone
abbrev pub starred : ℕ → Function → Read
starred at function.Count = Ok (record { at = at; kind = Some Int; expr = expr.CountAll; marks = at ∷ [] })
starred at _ = Err (unwritten at)

abbrev pub distinct : ℕ → Function → Typed → Read
distinct at function.Count t = counted at agg.Countd t
distinct at _ t = Err (unwritten at)

-- a WHEN asks whether its test is true, or equals the operand of the CASE, which is written again for each
abbrev pub test : ℕ → Option Typed → Typed → Read
test at None t = provided (may_be Truth t.kind) t (mismatch at)
test at (Some operand) t = compared op.Eq at operand t

abbrev pub arm : ℕ → Option Typed → Typed × Typed → Result (Typed × Typed) ReadFault
arm at operand a = test at operand a.0 >>= λ t. Ok (t, a.1)

abbrev pub when : Typed × Typed → When
when a = record { test = a.0.expr; value = a.1.expr }

abbrev pub arm_marks : Typed × Typed → List ℕ
arm_marks a = a.0.marks ++ a.1.marks

abbrev pub arm_kind : Typed × Typed → Kind
arm_kind a = a.1.kind

-- NULL where no ELSE stands
abbrev pub else_or_null : ℕ → Option Typed → Typed
else_or_null at None = leaf at None (expr.Literal cell.Null)
else_or_null at (Some t) = t

abbrev pub choice : ℕ → Kind → List (Typed × Typed) → Typed → Typed
choice at kind arms otherwise =
    record { at = at; kind = kind; expr = expr.Case (map when arms) otherwise.expr; marks = flat_map arm_marks arms ++ otherwise.marks }

-- all values of a CASE are of one type
abbrev pub values_of : List (Typed × Typed) → Typed → List Kind
values_of arms otherwise = map arm_kind arms ++ otherwise.kind ∷ []

abbrev pub case_of : ℕ → Typed → List (Typed × Typed) → Read
case_of at otherwise arms =
    provided (are_one_kind (values_of arms otherwise)) (choice at (first_kind (values_of arms otherwise)) arms otherwise) (mismatch at)

unfoldable pub cased : ℕ → Option Typed → List (Typed × Typed) → Option Typed → Read
cased at operand arms otherwise = all_of (map (arm at operand) arms) >>= case_of at (else_or_null at otherwise)
