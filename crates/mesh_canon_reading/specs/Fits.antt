-- What a definition that a program holds keeps: its numbers are those of their types, its texts are no longer than
-- memory, and its cron is one.
use Rattle.std.specs.Prelude.{◌≡◌, ℕ, ℤ, pos, negsuc, ◌-◌, ◌^◌, Bool, true, ◌&&◌, nat_le, nat_lt, List, length, Some, None}
use Rattle.std.specs.List.{list_all}
use Rattle.std.specs.declared.option.Option.{Option}
use Rattle.mesh_base_values.specs.Crons.{is_cron}
use Rattle.mesh_base_values.specs.declared.values.Cell.{Cell}
use Rattle.mesh_base_values.specs.declared.values.Cell.TheVariants as cells
use Rattle.mesh_base_values.specs.declared.values.Column.{Column}
use Rattle.mesh_base_values.specs.declared.values.Name.{Name}
use Rattle.mesh_base.specs.declared.expressions.Expr.{Expr, fold-Expr}
use Rattle.mesh_base.specs.declared.expressions.Expr.TheOpen.{Expr-F, When-F, Literal, Col, Macro, Binary, Neg, Not, IsNull, Between, OneOf, Cast, Call, Case, CountAll, Agg}
use Rattle.mesh_base.specs.declared.expressions.When.{When, fold-When}
use Rattle.mesh_base.specs.declared.queries.Item.{Item}
use Rattle.mesh_base.specs.declared.queries.Rel.{Rel}
use Rattle.mesh_base.specs.declared.queries.Rel.TheVariants as rels
use Rattle.mesh_base.specs.declared.queries.FromItem.{FromItem}
use Rattle.mesh_base.specs.declared.queries.Select.{Select}
use Rattle.mesh_base.specs.declared.queries.Query.{Query}
use Rattle.mesh_base_values.specs.declared.kinds.Kind.{Kind}
use Rattle.mesh_base_values.specs.declared.kinds.Kind.TheVariants as kinds
use Rattle.mesh_base.specs.declared.definitions.Decl.{Decl}
use Rattle.mesh_base.specs.declared.definitions.Defn.{Defn}
use Rattle.mesh_base.specs.declared.definitions.Defn.TheVariants as bodies
use Rattle.mesh_base.specs.declared.definitions.Own.{Own}
use Rattle.mesh_canon_text.specs.declared.form.Form.{Form}
use Rattle.mesh_canon_text.specs.declared.form.Form.TheVariants as forms

abbrev pub text_fits : List ℕ → Bool
text_fits t = nat_lt (length t) (2 ^ 64)

-- a number from -most - 1 to most
abbrev pub signed_fits : ℕ → ℤ → Bool
signed_fits most (pos n) = nat_le n most
signed_fits most (negsuc n) = nat_le n most

abbrev pub cell_fits : Cell → Bool
cell_fits cells.Null = true
cell_fits (cells.Int n) = signed_fits (2 ^ 63 - 1) n
cell_fits (cells.Text t) = text_fits t
cell_fits (cells.Date day) = signed_fits (2 ^ 31 - 1) day
cell_fits (cells.Bool b) = true

abbrev pub row_fits : List Cell → Bool
row_fits = list_all cell_fits

abbrev pub column_fits : Column → Bool
column_fits c = text_fits c.name

abbrev pub name_fits : Name → Bool
name_fits n = text_fits n.schema && text_fits n.model

-- one node of an expression, with the answer for each part
abbrev pub fits_here : Expr-F Bool Bool → Bool
fits_here (Literal cell) = cell_fits cell
fits_here (Col item name) = nat_lt item (2 ^ 32) && text_fits name
fits_here (Macro var) = true
fits_here (Binary op left right) = left && right
fits_here (Neg value) = value
fits_here (Not value) = value
fits_here (IsNull value) = value
fits_here (Between value low high) = value && (low && high)
fits_here (OneOf value of) = value && list_all (λ b. b) of
fits_here (Cast to value) = value
fits_here (Call func args) = list_all (λ b. b) args
fits_here (Case whens otherwise) = list_all (λ b. b) whens && otherwise
fits_here CountAll = true
fits_here (Agg kind value) = value

abbrev pub when_fits_here : When-F Bool Bool → Bool
when_fits_here w = w.test && w.value

abbrev pub expr_fits : Expr → Bool
expr_fits = fold-Expr Bool Bool fits_here when_fits_here

abbrev pub when_fits : When → Bool
when_fits = fold-When Bool Bool fits_here when_fits_here

abbrev pub option_fits : Option Expr → Bool
option_fits None = true
option_fits (Some e) = expr_fits e

abbrev pub item_fits : Item → Bool
item_fits i = text_fits i.name && expr_fits i.expr

abbrev pub rel_fits : Rel → Bool
rel_fits (rels.Named name) = name_fits name
rel_fits (rels.Cte at) = nat_lt at (2 ^ 32)

abbrev pub from_fits : FromItem → Bool
from_fits f = rel_fits f.rel && option_fits f.on

unfoldable pub select_fits : Select → Bool
select_fits s =
    list_all item_fits s.items && (list_all from_fits s.from && (option_fits s.filter
    && (list_all expr_fits s.keys && option_fits s.having)))

abbrev pub cte_fits : List Select → Bool
cte_fits = list_all select_fits

abbrev pub query_fits : Query → Bool
query_fits q = list_all cte_fits q.ctes && list_all select_fits q.selects

abbrev pub body_fits : Defn → Bool
body_fits (bodies.Seed columns rows) = list_all column_fits columns && list_all row_fits rows
body_fits (bodies.Sql query) = query_fits query

abbrev pub time_fits : Option (List ℕ) → Bool
time_fits None = true
time_fits (Some time) = text_fits time

abbrev pub source_fits : Decl → Bool
source_fits d = name_fits d.name && (list_all column_fits d.columns && time_fits d.time)

abbrev pub kind_fits : Kind → Bool
kind_fits kinds.Full = true
kind_fits kinds.View = true
kind_fits kinds.Seed = true
kind_fits (kinds.Incremental time lookback) = text_fits time && nat_lt lookback (2 ^ 32)

-- a lookback that a form's text says: the former one says only that there is none
abbrev pub Said : Form → ℕ → Type 0
Said forms.Current lookback = Unit {0}
Said forms.Former lookback = lookback ≡ 0

abbrev pub start_fits : Option ℤ → Bool
start_fits None = true
start_fits (Some day) = signed_fits (2 ^ 31 - 1) day

-- a definition that a program can hold
unfoldable pub is_own : Own → Bool
is_own m =
    name_fits m.name && (kind_fits m.kind && (is_cron m.cron && (start_fits m.start
    && (list_all source_fits m.sources && body_fits m.defn))))

-- texts that a program can hold
abbrev pub are_texts : List (List ℕ) → Bool
are_texts = list_all text_fits
