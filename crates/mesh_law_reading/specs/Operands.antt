-- Whether the operators and functions of an expression have operands of the types that they take. NULL is of each type.
use Rattle.std.specs.Prelude.{Bool, true, ◌&&◌, ◌||◌, List, [], ◌∷◌, ◌++◌, map, None, Some}
use Rattle.std.specs.List.{list_all, list_any}
use Rattle.std.specs.declared.option.Option.{Option}
use Rattle.mesh_base_values.specs.declared.times.Bounds.{Bounds}
use Rattle.mesh_base_values.specs.declared.values.Cell.{Cell}
use Rattle.mesh_base_values.specs.declared.values.ColType.{ColType}
use Rattle.mesh_base_values.specs.declared.values.ColType.TheVariants as type
use Rattle.mesh_base.specs.declared.expressions.AggKind.{AggKind}
use Rattle.mesh_base.specs.declared.expressions.AggKind.TheVariants as agg
use Rattle.mesh_base.specs.declared.expressions.Expr.{Expr, para-Expr}
use Rattle.mesh_base.specs.declared.expressions.Expr.TheOpen.{Expr-F, When-F, Literal, Col, Macro, Binary, Neg, Not, IsNull, Between, OneOf, Cast, Call, Case, CountAll, Agg}
use Rattle.mesh_base.specs.declared.expressions.Func.{Func}
use Rattle.mesh_base.specs.declared.expressions.Func.TheVariants as func
use Rattle.mesh_base.specs.declared.expressions.Op.{Op}
use Rattle.mesh_base.specs.declared.expressions.Op.TheVariants as op
use Rattle.mesh_base.specs.declared.expressions.When.{When, para-When}
use Rattle.mesh_model_csv.specs.seeds.Fits.{is_of}
use Rattle.mesh_spec_query.specs.Ev.{Ev, Scope, Seen, at_row}

-- all are of one type
abbrev pub are_of_one_type : List Cell → Bool
are_of_one_type cells = list_any (λ kind. list_all (is_of kind) cells) (type.Int ∷ type.Text ∷ type.Date ∷ type.Bool ∷ [])

abbrev pub are_both_of : ColType → Cell → Cell → Bool
are_both_of kind x y = is_of kind x && is_of kind y

-- INT is added to INT and to DATE
abbrev pub op_takes : Op → Cell → Cell → Bool
op_takes op.Add x y = are_both_of type.Int x y || (is_of type.Date x && is_of type.Int y)
op_takes op.Sub x y = are_both_of type.Int x y || ((is_of type.Date x && is_of type.Int y) || are_both_of type.Date x y)
op_takes op.Mul x y = are_both_of type.Int x y
op_takes op.Div x y = are_both_of type.Int x y
op_takes op.Rem x y = are_both_of type.Int x y
op_takes op.Cat x y = are_both_of type.Text x y
op_takes op.And x y = are_both_of type.Bool x y
op_takes op.Or x y = are_both_of type.Bool x y
op_takes comparison x y = are_of_one_type (x ∷ y ∷ [])

-- every cell has a text, a DATE is of a text or a DATE, and INT and BOOL are of one another and of a text
abbrev pub cast_takes : ColType → Cell → Bool
cast_takes type.Int x = is_of type.Int x || (is_of type.Text x || is_of type.Bool x)
cast_takes type.Text x = true
cast_takes type.Date x = is_of type.Text x || is_of type.Date x
cast_takes type.Bool x = is_of type.Int x || (is_of type.Text x || is_of type.Bool x)

abbrev pub func_takes : Func → List Cell → Bool
func_takes func.Abs cells = list_all (is_of type.Int) cells
func_takes func.Length cells = list_all (is_of type.Text) cells
func_takes func.Upper cells = list_all (is_of type.Text) cells
func_takes func.Lower cells = list_all (is_of type.Text) cells
func_takes alternatives cells = are_of_one_type cells

abbrev pub agg_takes : AggKind → List Cell → Bool
agg_takes agg.Sum cells = list_all (is_of type.Int) cells
agg_takes agg.Min cells = are_of_one_type cells
agg_takes agg.Max cells = are_of_one_type cells
agg_takes agg.Count cells = true
agg_takes agg.Countd cells = true

-- One node, where each part comes with its own answer.
abbrev pub Part : Type 0
Part = Expr × (Scope → Bool)

abbrev pub ArmPart : Type 0
ArmPart = When × (Scope → Bool)

-- an aggregate has operands in a group alone
abbrev pub agg_fits : AggKind → Part → Bounds → Option (List Seen) → Bool
agg_fits kind x u None = true
agg_fits kind x u (Some rows) = agg_takes kind (map (λ row. Ev x.0 (at_row u row)) rows) && list_all (λ row. x.1 (at_row u row)) rows

abbrev pub node_fits : Expr-F Part ArmPart → Scope → Bool
node_fits (Literal c) s = true
node_fits (Col item name) s = true
node_fits (Macro var) s = true
node_fits (Binary op left right) s = op_takes op (Ev left.0 s) (Ev right.0 s) && (left.1 s && right.1 s)
node_fits (Neg x) s = is_of type.Int (Ev x.0 s) && x.1 s
node_fits (Not x) s = is_of type.Bool (Ev x.0 s) && x.1 s
node_fits (IsNull x) s = x.1 s
node_fits (Between x low high) s = (are_of_one_type (Ev x.0 s ∷ Ev low.0 s ∷ []) && are_of_one_type (Ev x.0 s ∷ Ev high.0 s ∷ [])) && (x.1 s && (low.1 s && high.1 s))
node_fits (OneOf x of) s = list_all (λ (p : Part). are_of_one_type (Ev x.0 s ∷ Ev p.0 s ∷ [])) of && (x.1 s && list_all (λ (p : Part). p.1 s) of)
node_fits (Cast to x) s = cast_takes to (Ev x.0 s) && x.1 s
node_fits (Call f args) s = func_takes f (map (λ (p : Part). Ev p.0 s) args) && list_all (λ (p : Part). p.1 s) args
node_fits (Case whens otherwise) s =
    (list_all (λ (w : ArmPart). is_of type.Bool (Ev w.0.test s)) whens && are_of_one_type (map (λ (w : ArmPart). Ev w.0.value s) whens ++ Ev otherwise.0 s ∷ []))
    && (list_all (λ (w : ArmPart). w.1 s) whens && otherwise.1 s)
node_fits CountAll s = true
node_fits (Agg kind x) s = agg_fits kind x s.bounds s.group

abbrev pub when_fits : When-F Part ArmPart → Scope → Bool
when_fits w s = w.test.1 s && w.value.1 s

abbrev pub operands_fit : Expr → Scope → Bool
operands_fit = para-Expr (Scope → Bool) (Scope → Bool) node_fits when_fits

abbrev pub when_operands_fit : When → Scope → Bool
when_operands_fit = para-When (Scope → Bool) (Scope → Bool) node_fits when_fits
