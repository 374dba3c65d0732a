-- The canonical text of a definition, and its former text: one small definition for each kind of thing.
use Rattle.std.specs.Prelude.{ℕ, ℤ, zero, suc, ◌+◌, ◌/◌, ◌%◌, ◌==◌, Bool, true, false, if◌then◌else◌, List, [], ◌∷◌, ◌++◌, length, codes, Some, None}
use Rattle.std.specs.List.{flat_map}
use Rattle.std.specs.Fmt.{decimal, signed_decimal}
use Rattle.std.specs.declared.option.Option.{Option}
use Rattle.hex.specs.Hex.{encode_lower}
use Rattle.mesh_base_values.specs.Crons.{CronSets}
use Rattle.mesh_base_values.specs.declared.values.Cell.{Cell}
use Rattle.mesh_base_values.specs.declared.values.Cell.TheVariants as cells
use Rattle.mesh_base_values.specs.declared.values.ColType.{ColType}
use Rattle.mesh_base_values.specs.declared.values.ColType.TheVariants as types
use Rattle.mesh_base_values.specs.declared.values.Column.{Column}
use Rattle.mesh_base_values.specs.declared.times.Unit.{Unit as TimeUnit}
use Rattle.mesh_base_values.specs.declared.times.Unit.TheVariants as units
use Rattle.mesh_base.specs.declared.expressions.Op.{Op}
use Rattle.mesh_base.specs.declared.expressions.Op.TheVariants as ops
use Rattle.mesh_base.specs.declared.expressions.Func.{Func}
use Rattle.mesh_base.specs.declared.expressions.Func.TheVariants as functions
use Rattle.mesh_base.specs.declared.expressions.AggKind.{AggKind}
use Rattle.mesh_base.specs.declared.expressions.AggKind.TheVariants as aggregates
use Rattle.mesh_base.specs.declared.expressions.Var.{Var}
use Rattle.mesh_base.specs.declared.expressions.Var.TheVariants as macros
use Rattle.mesh_base.specs.declared.expressions.Expr.{Expr, fold-Expr}
use Rattle.mesh_base.specs.declared.expressions.Expr.TheOpen.{Expr-F, When-F, Literal, Col, Macro, Binary, Neg, Not, IsNull, Between, OneOf, Cast, Call, Case, CountAll, Agg}
use Rattle.mesh_base.specs.declared.expressions.When.{When, fold-When}
use Rattle.mesh_base.specs.declared.queries.Item.{Item}
use Rattle.mesh_base.specs.declared.queries.Rel.{Rel}
use Rattle.mesh_base.specs.declared.queries.Rel.TheVariants as rels
use Rattle.mesh_base.specs.declared.queries.Join.{Join}
use Rattle.mesh_base.specs.declared.queries.Join.TheVariants as joins
use Rattle.mesh_base.specs.declared.queries.FromItem.{FromItem}
use Rattle.mesh_base.specs.declared.queries.Select.{Select}
use Rattle.mesh_base.specs.declared.queries.Query.{Query}
use Rattle.mesh_base_values.specs.declared.kinds.Kind.{Kind}
use Rattle.mesh_base_values.specs.declared.kinds.Kind.TheVariants as kinds
use Rattle.mesh_base.specs.declared.definitions.Decl.{Decl}
use Rattle.mesh_base.specs.declared.definitions.Defn.{Defn}
use Rattle.mesh_base.specs.declared.definitions.Defn.TheVariants as bodies
use Rattle.mesh_base.specs.declared.definitions.Own.{Own}
use Rattle.mesh_base.specs.declared.snapshots.Ref.{Ref}
use Rattle.mesh_canon_text.specs.declared.form.Form.{Form}
use Rattle.mesh_canon_text.specs.declared.form.Form.TheVariants as forms

-- some bytes and then others
infixr 30 ◌·◌
abbrev pub ◌·◌ : List ℕ → List ℕ → List ℕ
a · b = a ++ b

-- a text: its length in bytes, a colon and its bytes
unfoldable pub text_of : List ℕ → List ℕ
text_of bytes = decimal (length bytes) · codes ":" · bytes

-- each member behind a space
unfoldable pub spaced : {A : Type 0} → (A → List ℕ) → List A → List ℕ
spaced f xs = flat_map (λ x. codes " " · f x) xs

-- members with a space between
unfoldable pub members : {A : Type 0} → (A → List ℕ) → List A → List ℕ
members f [] = []
members f (x ∷ xs) = f x · spaced f xs

-- what stands before the member at a place
abbrev pub gap : ℕ → List ℕ
gap zero = []
gap (suc n) = codes " "

-- a list in brackets
unfoldable pub list_of : {A : Type 0} → (A → List ℕ) → List A → List ℕ
list_of f xs = codes "[" · members f xs · codes "]"

-- a list of texts
abbrev pub list_text : List (List ℕ) → List ℕ
list_text = list_of text_of

-- a lookback behind the time column: the former text has none
unfoldable pub lookback_by : Form → ℕ → List ℕ
lookback_by forms.Current lookback = codes " " · decimal lookback
lookback_by forms.Former lookback = []

-- how a model's rows are kept
unfoldable pub kind_by : Form → Kind → List ℕ
kind_by form kinds.Full = codes "(full)"
kind_by form kinds.View = codes "(view)"
kind_by form kinds.Seed = codes "(seed)"
kind_by form (kinds.Incremental time lookback) =
    codes "(incremental " · text_of time · lookback_by form lookback · codes ")"

-- the places of the digits that are 1 among the first n binary digits of a number, counted from a place
unfoldable pub places : ℕ → ℕ → ℕ → List ℕ
places zero from digits = []
places (suc n) from digits =
    if digits % 2 == 1 then from ∷ places n (from + 1) (digits / 2) else places n (from + 1) (digits / 2)

-- each number behind a comma
unfoldable pub behind_commas : List ℕ → List ℕ
behind_commas [] = []
behind_commas (n ∷ ns) = codes "," · decimal n · behind_commas ns

-- numbers with a comma between
unfoldable pub commas : List ℕ → List ℕ
commas [] = []
commas (n ∷ ns) = decimal n · behind_commas ns

-- a field: `*`, or the ascending values of its set
unfoldable pub field_text : Bool → ℕ → ℕ → List ℕ
field_text true n set = codes "*"
field_text false n set = commas (places n 0 set)

-- the five fields of a cron: a day field is `*` where it was written so, another one where it matches all
unfoldable pub fields_text : CronSets → List ℕ
fields_text c =
    field_text (c.minute == 0xfff_ffff_ffff_ffff) 60 c.minute · codes " "
    · field_text (c.hour == 0xff_ffff) 24 c.hour · codes " "
    · field_text c.dom_star 32 c.dom · codes " "
    · field_text (c.month == 0x1ffe) 13 c.month · codes " "
    · field_text c.dow_star 7 c.dow

unfoldable pub cron_text : CronSets → List ℕ
cron_text c = text_of (fields_text c)

abbrev pub unit_word : TimeUnit → List ℕ
unit_word units.Hour = codes "hour"
unit_word units.Day = codes "day"

-- a day, or none
unfoldable pub start_text : Option ℤ → List ℕ
start_text None = codes "none"
start_text (Some day) = signed_decimal day

abbrev pub type_word : ColType → List ℕ
type_word types.Int = codes "int"
type_word types.Text = codes "text"
type_word types.Date = codes "date"
type_word types.Bool = codes "bool"

unfoldable pub column_text : Column → List ℕ
column_text c = codes "(column " · text_of c.name · codes " " · type_word c.kind · codes ")"

-- a text, or none
unfoldable pub time_text : Option (List ℕ) → List ℕ
time_text None = codes "none"
time_text (Some time) = text_of time

unfoldable pub source_text : Decl → List ℕ
source_text d =
    codes "(source " · text_of d.name.schema · codes " " · text_of d.name.model · codes " "
    · list_of column_text d.columns · codes " " · time_text d.time · codes ")"

unfoldable pub cell_text : Cell → List ℕ
cell_text cells.Null = codes "null"
cell_text (cells.Int n) = codes "(int " · signed_decimal n · codes ")"
cell_text (cells.Text t) = codes "(text " · text_of t · codes ")"
cell_text (cells.Date day) = codes "(date " · signed_decimal day · codes ")"
cell_text (cells.Bool true) = codes "true"
cell_text (cells.Bool false) = codes "false"

abbrev pub op_word : Op → List ℕ
op_word ops.Add = codes "add"
op_word ops.Sub = codes "sub"
op_word ops.Mul = codes "mul"
op_word ops.Div = codes "div"
op_word ops.Rem = codes "rem"
op_word ops.Cat = codes "cat"
op_word ops.Eq = codes "eq"
op_word ops.Ne = codes "ne"
op_word ops.Lt = codes "lt"
op_word ops.Le = codes "le"
op_word ops.Gt = codes "gt"
op_word ops.Ge = codes "ge"
op_word ops.And = codes "and"
op_word ops.Or = codes "or"

abbrev pub func_word : Func → List ℕ
func_word functions.Abs = codes "abs"
func_word functions.Length = codes "length"
func_word functions.Upper = codes "upper"
func_word functions.Lower = codes "lower"
func_word functions.Nullif = codes "nullif"
func_word functions.Coalesce = codes "coalesce"

abbrev pub agg_word : AggKind → List ℕ
agg_word aggregates.Count = codes "count"
agg_word aggregates.Countd = codes "countd"
agg_word aggregates.Sum = codes "sum"
agg_word aggregates.Min = codes "min"
agg_word aggregates.Max = codes "max"

abbrev pub macro_word : Var → List ℕ
macro_word macros.StartDate = codes "start_date"
macro_word macros.EndDate = codes "end_date"
macro_word macros.StartDs = codes "start_ds"
macro_word macros.EndDs = codes "end_ds"
macro_word macros.StartEpoch = codes "start_epoch"
macro_word macros.EndEpoch = codes "end_epoch"

-- one node of an expression, with the text of each part
unfoldable pub expr_here : Expr-F (List ℕ) (List ℕ) → List ℕ
expr_here (Literal cell) = cell_text cell
expr_here (Col item name) = codes "(col " · decimal item · codes " " · text_of name · codes ")"
expr_here (Macro var) = codes "(var " · macro_word var · codes ")"
expr_here (Binary op left right) = codes "(" · op_word op · codes " " · left · codes " " · right · codes ")"
expr_here (Neg value) = codes "(neg " · value · codes ")"
expr_here (Not value) = codes "(not " · value · codes ")"
expr_here (IsNull value) = codes "(isnull " · value · codes ")"
expr_here (Between value low high) =
    codes "(between " · value · codes " " · low · codes " " · high · codes ")"
expr_here (OneOf value of) = codes "(in " · value · codes " " · list_of (λ t. t) of · codes ")"
expr_here (Cast to value) = codes "(cast " · type_word to · codes " " · value · codes ")"
expr_here (Call func args) = codes "(call " · func_word func · codes " " · list_of (λ t. t) args · codes ")"
expr_here (Case whens otherwise) =
    codes "(case " · list_of (λ t. t) whens · codes " " · otherwise · codes ")"
expr_here CountAll = codes "(count)"
expr_here (Agg kind value) = codes "(agg " · agg_word kind · codes " " · value · codes ")"

unfoldable pub when_here : When-F (List ℕ) (List ℕ) → List ℕ
when_here w = codes "(when " · w.test · codes " " · w.value · codes ")"

abbrev pub expr_text : Expr → List ℕ
expr_text = fold-Expr (List ℕ) (List ℕ) expr_here when_here

abbrev pub when_text : When → List ℕ
when_text = fold-When (List ℕ) (List ℕ) expr_here when_here

-- an expression, or none
unfoldable pub option_text : Option Expr → List ℕ
option_text None = codes "none"
option_text (Some e) = expr_text e

unfoldable pub item_text : Item → List ℕ
item_text i = codes "(as " · text_of i.name · codes " " · type_word i.kind · codes " " · expr_text i.expr · codes ")"

unfoldable pub rel_text : Rel → List ℕ
rel_text (rels.Named name) = codes "(rel " · text_of name.schema · codes " " · text_of name.model · codes ")"
rel_text (rels.Cte at) = codes "(cte " · decimal at · codes ")"

abbrev pub join_word : Join → List ℕ
join_word joins.First = codes "first"
join_word joins.Inner = codes "inner"
join_word joins.Left = codes "left"
join_word joins.Cross = codes "cross"

unfoldable pub from_text : FromItem → List ℕ
from_text f =
    codes "(item " · join_word f.join · codes " " · rel_text f.rel · codes " " · option_text f.on · codes ")"

abbrev pub distinct_word : Bool → List ℕ
distinct_word true = codes "distinct"
distinct_word false = codes "all"

abbrev pub grouped_word : Bool → List ℕ
grouped_word true = codes "grouped"
grouped_word false = codes "plain"

unfoldable pub select_text : Select → List ℕ
select_text s =
    codes "(select " · distinct_word s.distinct · codes " " · grouped_word s.grouped · codes " "
    · list_of item_text s.items · codes " " · list_of from_text s.from · codes " " · option_text s.filter
    · codes " " · list_of expr_text s.keys · codes " " · option_text s.having · codes ")"

unfoldable pub cte_text : List Select → List ℕ
cte_text selects = codes "(cte " · list_of select_text selects · codes ")"

unfoldable pub query_text : Query → List ℕ
query_text q = codes "(query " · list_of cte_text q.ctes · codes " " · list_of select_text q.selects · codes ")"

unfoldable pub row_text : List Cell → List ℕ
row_text = list_of cell_text

-- the rows of a seed, or the query of another model
unfoldable pub body_text : Defn → List ℕ
body_text (bodies.Seed columns rows) =
    codes "(seed " · list_of column_text columns · codes " " · list_of row_text rows · codes ")"
body_text (bodies.Sql query) = query_text query

-- a definition, in one form or the other
unfoldable pub own_by : Form → Own → List ℕ
own_by form m =
    codes "(own " · text_of m.name.schema · codes " " · text_of m.name.model · codes " " · kind_by form m.kind
    · codes " " · cron_text m.cron · codes " " · unit_word m.unit · codes " " · start_text m.start
    · codes " " · list_of source_text m.sources · codes " " · body_text m.defn · codes ")"

-- the canonical text of a definition
abbrev pub own_text : Own → List ℕ
own_text = own_by forms.Current

-- its text before kinds had a lookback
abbrev pub own_text_old : Own → List ℕ
own_text_old = own_by forms.Former

-- a parent's line
unfoldable pub parent_text : Ref → List ℕ
parent_text r =
    codes "(parent " · text_of r.name.schema · codes " " · text_of r.name.model · codes " "
    · encode_lower r.fingerprint · codes ")" · 10 ∷ []

-- what a fingerprint is made of: a definition, and a line for each parent in the order given
unfoldable pub node_text : Own → List Ref → List ℕ
node_text m parents = own_text m · 10 ∷ flat_map parent_text parents
