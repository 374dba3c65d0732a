-- Reading a canonical text: each function gives what stands at the front of some bytes and what is left behind it, or
-- nothing where the bytes begin with no such text.
use Rattle.std.specs.Prelude.{ℕ, ℤ, zero, suc, ◌+◌, ◌-◌, ◌^◌, nat_lt, Bool, true, false, if◌then◌else◌, List, [], ◌∷◌, ◌++◌, length, codes, Option, Some, None}
use Rattle.mesh_base_values.specs.Crons.{CronSets, is_cron}
use Rattle.mesh_base_values.specs.declared.values.Cell.{Cell}
use Rattle.mesh_base_values.specs.declared.values.Cell.TheVariants as cells
use Rattle.mesh_base_values.specs.declared.values.ColType.{ColType}
use Rattle.mesh_base_values.specs.declared.values.Column.{Column}
use Rattle.mesh_base_values.specs.declared.values.Name.{Name}
use Rattle.mesh_base_values.specs.declared.times.Unit.{Unit as TimeUnit}
use Rattle.mesh_base.specs.declared.expressions.Op.{Op}
use Rattle.mesh_base.specs.declared.expressions.Expr.{Expr}
use Rattle.mesh_base.specs.declared.expressions.Expr.TheVariants as exprs
use Rattle.mesh_base.specs.declared.expressions.When.{When}
use Rattle.mesh_base.specs.declared.queries.Item.{Item}
use Rattle.mesh_base.specs.declared.queries.Rel.{Rel}
use Rattle.mesh_base.specs.declared.queries.Rel.TheVariants as rels
use Rattle.mesh_base.specs.declared.queries.FromItem.{FromItem}
use Rattle.mesh_base.specs.declared.queries.Select.{Select}
use Rattle.mesh_base.specs.declared.queries.Query.{Query}
use Rattle.mesh_base_values.specs.declared.kinds.Kind.{Kind}
use Rattle.mesh_base_values.specs.declared.kinds.Kind.TheVariants as kinds
use Rattle.mesh_base.specs.declared.definitions.Decl.{Decl}
use Rattle.mesh_base.specs.declared.definitions.Defn.{Defn}
use Rattle.mesh_base.specs.declared.definitions.Defn.TheVariants as bodies
use Rattle.mesh_base.specs.declared.definitions.Own.{Own}
use Rattle.mesh_canon_text.specs.declared.form.Form.{Form}
use Rattle.mesh_canon_text.specs.declared.form.Form.TheVariants as forms
use Rattle.mesh_canon_reading.specs.declared.cron_reading.Fields.{Fields}
use Rattle.mesh_canon_words.specs.declared.heads.CellHead.{CellHead}
use Rattle.mesh_canon_words.specs.declared.heads.CellHead.TheVariants as cell_heads
use Rattle.mesh_canon_words.specs.declared.heads.Head.{Head}
use Rattle.mesh_canon_words.specs.declared.heads.Head.TheVariants as heads
use Rattle.mesh_canon_words.specs.Words.{◌>>=◌, after, agg_at, behind, cell_head_at, distinct_at, func_at, grouped_at, head_at, join_at, macro_at, number_at, signed_at, text_at, then_at, type_at, unit_at}

-- no members, where the bracket that ends a list was there, and else its members
abbrev pub none_or : {A : Type 0} → Option (List ℕ) → Option (List A × List ℕ) → Option (List A × List ℕ)
none_or None others = others
none_or (Some rest) others = Some ([], rest)

-- members behind spaces, up to the bracket that ends their list
unfoldable pub more_at : {A : Type 0} → (List ℕ → Option (A × List ℕ)) → ℕ → List ℕ → Option (List A × List ℕ)
more_at read zero bytes = None
more_at read (suc n) bytes = none_or (after (codes "]") bytes) (do
  b0 ← after (codes " ") bytes
  x ← read b0
  others ← more_at read n x.1
  Some (x.0 ∷ others.0, others.1))

-- the members of a list that isn't empty
unfoldable pub members_at : {A : Type 0} → (List ℕ → Option (A × List ℕ)) → List ℕ → Option (List A × List ℕ)
members_at read bytes = do
  first ← read bytes
  others ← more_at read (length first.1) first.1
  Some (first.0 ∷ others.0, others.1)

-- a list in brackets
unfoldable pub list_at : {A : Type 0} → (List ℕ → Option (A × List ℕ)) → List ℕ → Option (List A × List ℕ)
list_at read bytes = do
  inner ← after (codes "[") bytes
  none_or (after (codes "]") inner) (members_at read inner)

-- what was read before, and then what is read
abbrev pub with_front : {A : Type 0} → List A → Option (List A × List ℕ) → Option (List A × List ℕ)
with_front front read = read >>= λ x. Some (front ++ x.0, x.1)

-- all of the bytes
abbrev pub whole : {A : Type 0} → Option (A × List ℕ) → Option A
whole None = None
whole (Some (x, [])) = Some x
whole (Some (x, b ∷ rest)) = None

-- the values behind a comma, where it came, and else the set
abbrev pub go_on : (List ℕ → Option (ℕ × List ℕ)) → ℕ × List ℕ → Option (List ℕ) → Option (ℕ × List ℕ)
go_on read here None = Some here
go_on read here (Some rest) = read rest

-- at most so many ascending values from `low` to `most` with a comma between, in a set with what it has
unfoldable pub values_at : ℕ → ℕ → ℕ → ℕ → List ℕ → Option (ℕ × List ℕ)
values_at zero most low set bytes = None
values_at (suc count) most low set bytes =
    number_at most bytes >>= λ value.
    if nat_lt value.0 low then None
    else go_on (values_at count most (value.0 + 1) (set + 2 ^ value.0)) (set + 2 ^ value.0, value.1) (after (codes ",") value.1)

-- each value, where `*` was there, and else the values that were read
abbrev pub each_or : ℕ → Option (List ℕ) → Option (ℕ × List ℕ) → Option ((ℕ × Bool) × List ℕ)
each_or each None found = found >>= λ x. Some ((x.0, false), x.1)
each_or each (Some rest) found = Some ((each, true), rest)

-- a field: its set, and whether it is `*`
unfoldable pub field_at : ℕ → ℕ → List ℕ → Option ((ℕ × Bool) × List ℕ)
field_at each most bytes = each_or each (after (codes "*") bytes) (values_at 60 most 0 0 bytes)

unfoldable pub fields_at : List ℕ → Option (CronSets × List ℕ)
fields_at bytes = do
  minute ← then_at (codes " ") (field_at 0xfff_ffff_ffff_ffff 59) bytes
  hour ← then_at (codes " ") (field_at 0xff_ffff 23) minute.1
  dom ← then_at (codes " ") (field_at 0xffff_fffe 31) hour.1
  month ← then_at (codes " ") (field_at 0x1ffe 12) dom.1
  dow ← field_at 0x7f 6 month.1
  Some (record { minute = minute.0.0; hour = hour.0.0; dom = dom.0.0; month = month.0.0; dow = dow.0.0; dom_star = dom.0.1; dow_star = dow.0.1 }, dow.1)

-- five fields, and nothing else
unfoldable pub fields_in : List ℕ → Option CronSets
fields_in bytes = whole (fields_at bytes)

-- sets, where they are those of a cron
abbrev pub checked : CronSets → Option CronSets
checked c = if is_cron c then Some c else None

-- what five fields say
abbrev pub sets_of : Fields → CronSets
sets_of f = record { minute = f.minute; hour = f.hour; dom = f.dom; month = f.month; dow = f.dow; dom_star = f.dom_star; dow_star = f.dow_star }

-- a text of five fields
unfoldable pub cron_at : List ℕ → Option (CronSets × List ℕ)
cron_at bytes = do
  t ← text_at bytes
  fields ← fields_in t.0
  Some (fields, t.1)

-- a value, where the bracket that ends its node comes
abbrev pub closed : {A : Type 0} → A → List ℕ → Option (A × List ℕ)
closed x bytes = after (codes ")") bytes >>= λ rest. Some (x, rest)

-- nothing, where `none` was there, and else a value
abbrev pub optional : {A : Type 0} → Option (List ℕ) → Option (A × List ℕ) → Option (Option A × List ℕ)
optional None found = found >>= λ x. Some (Some x.0, x.1)
optional (Some rest) found = Some (None, rest)

-- a cell of a number, a text or a day, behind its head
abbrev pub int_at : List ℕ → Option (Cell × List ℕ)
int_at bytes = signed_at (2 ^ 63 - 1) bytes >>= λ n. closed (cells.Int n.0) n.1

abbrev pub text_cell_at : List ℕ → Option (Cell × List ℕ)
text_cell_at bytes = text_at bytes >>= λ t. closed (cells.Text t.0) t.1

abbrev pub date_at : List ℕ → Option (Cell × List ℕ)
date_at bytes = signed_at (2 ^ 31 - 1) bytes >>= λ n. closed (cells.Date n.0) n.1

-- a cell behind its head
unfoldable pub cell_parts_at : CellHead → List ℕ → Option (Cell × List ℕ)
cell_parts_at cell_heads.Null bytes = Some (cells.Null, bytes)
cell_parts_at cell_heads.True bytes = Some (cells.Bool true, bytes)
cell_parts_at cell_heads.False bytes = Some (cells.Bool false, bytes)
cell_parts_at cell_heads.Int bytes = int_at bytes
cell_parts_at cell_heads.Text bytes = text_cell_at bytes
cell_parts_at cell_heads.Date bytes = date_at bytes

unfoldable pub cell_at : List ℕ → Option (Cell × List ℕ)
cell_at bytes = cell_head_at bytes >>= λ h. cell_parts_at h.0 h.1

unfoldable pub row_at : List ℕ → Option (List Cell × List ℕ)
row_at = list_at cell_at

unfoldable pub column_at : List ℕ → Option (Column × List ℕ)
column_at bytes = do
  b0 ← after (codes "(column ") bytes
  name ← then_at (codes " ") text_at b0
  kind ← then_at (codes ")") type_at name.1
  Some (record { name = name.0; kind = kind.0 }, kind.1)

unfoldable pub name_at : List ℕ → Option (Name × List ℕ)
name_at bytes = do
  schema ← then_at (codes " ") text_at bytes
  model ← text_at schema.1
  Some (record { schema = schema.0; model = model.0 }, model.1)

unfoldable pub when_at : (List ℕ → Option (Expr × List ℕ)) → List ℕ → Option (When × List ℕ)
when_at read bytes = do
  b0 ← after (codes "(when ") bytes
  test ← then_at (codes " ") read b0
  value ← then_at (codes ")") read test.1
  Some (record { test = test.0; value = value.0 }, value.1)

unfoldable pub col_at : List ℕ → Option (Expr × List ℕ)
col_at bytes = do
  item ← number_at (2 ^ 32 - 1) bytes
  b0 ← after (codes " ") item.1
  name ← then_at (codes ")") text_at b0
  Some (exprs.Col item.0 name.0, name.1)

unfoldable pub binary_at : Op → (List ℕ → Option (Expr × List ℕ)) → List ℕ → Option (Expr × List ℕ)
binary_at op read bytes = do
  left ← then_at (codes " ") read bytes
  right ← then_at (codes ")") read left.1
  Some (exprs.Binary op left.0 right.0, right.1)

unfoldable pub between_at : (List ℕ → Option (Expr × List ℕ)) → List ℕ → Option (Expr × List ℕ)
between_at read bytes = do
  value ← then_at (codes " ") read bytes
  low ← then_at (codes " ") read value.1
  high ← then_at (codes ")") read low.1
  Some (exprs.Between value.0 low.0 high.0, high.1)

unfoldable pub one_of_at : (List ℕ → Option (Expr × List ℕ)) → List ℕ → Option (Expr × List ℕ)
one_of_at read bytes = do
  value ← then_at (codes " ") read bytes
  of ← list_at read value.1
  closed (exprs.OneOf value.0 of.0) of.1

unfoldable pub cast_at : (List ℕ → Option (Expr × List ℕ)) → List ℕ → Option (Expr × List ℕ)
cast_at read bytes = do
  to ← then_at (codes " ") type_at bytes
  value ← then_at (codes ")") read to.1
  Some (exprs.Cast to.0 value.0, value.1)

unfoldable pub call_at : (List ℕ → Option (Expr × List ℕ)) → List ℕ → Option (Expr × List ℕ)
call_at read bytes = do
  func ← func_at bytes
  args ← list_at read func.1
  closed (exprs.Call func.0 args.0) args.1

unfoldable pub case_at : (List ℕ → Option (Expr × List ℕ)) → List ℕ → Option (Expr × List ℕ)
case_at read bytes = do
  whens ← list_at (when_at read) bytes
  b0 ← after (codes " ") whens.1
  otherwise ← then_at (codes ")") read b0
  Some (exprs.Case whens.0 otherwise.0, otherwise.1)

unfoldable pub agg_parts_at : (List ℕ → Option (Expr × List ℕ)) → List ℕ → Option (Expr × List ℕ)
agg_parts_at read bytes = do
  kind ← agg_at bytes
  value ← then_at (codes ")") read kind.1
  Some (exprs.Agg kind.0 value.0, value.1)

-- nodes of one cell, one macro and no part, behind their heads
unfoldable pub literal_at : CellHead → List ℕ → Option (Expr × List ℕ)
literal_at cell bytes = cell_parts_at cell bytes >>= λ c. Some (exprs.Literal c.0, c.1)

unfoldable pub variable_at : List ℕ → Option (Expr × List ℕ)
variable_at bytes = macro_at bytes >>= λ var. closed (exprs.Macro var.0) var.1

unfoldable pub count_at : List ℕ → Option (Expr × List ℕ)
count_at bytes = closed exprs.CountAll bytes

-- a node behind its head, with its parts as they are read
unfoldable pub parts_at : (List ℕ → Option (Expr × List ℕ)) → Head → List ℕ → Option (Expr × List ℕ)
parts_at read (heads.Literal cell) bytes = literal_at cell bytes
parts_at read heads.Col bytes = col_at bytes
parts_at read heads.Macro bytes = variable_at bytes
parts_at read (heads.Binary op) bytes = binary_at op read bytes
parts_at read heads.Neg bytes = then_at (codes ")") read bytes >>= λ x. Some (exprs.Neg x.0, x.1)
parts_at read heads.Not bytes = then_at (codes ")") read bytes >>= λ x. Some (exprs.Not x.0, x.1)
parts_at read heads.IsNull bytes = then_at (codes ")") read bytes >>= λ x. Some (exprs.IsNull x.0, x.1)
parts_at read heads.Between bytes = between_at read bytes
parts_at read heads.OneOf bytes = one_of_at read bytes
parts_at read heads.Cast bytes = cast_at read bytes
parts_at read heads.Call bytes = call_at read bytes
parts_at read heads.Case bytes = case_at read bytes
parts_at read heads.CountAll bytes = count_at bytes
parts_at read heads.Agg bytes = agg_parts_at read bytes

-- an expression of at most so many nodes inside one another
unfoldable pub expr_at : ℕ → List ℕ → Option (Expr × List ℕ)
expr_at zero bytes = None
expr_at (suc n) bytes = head_at bytes >>= λ h. parts_at (expr_at n) h.0 h.1

-- an expression: no text has more nodes than bytes
abbrev pub any_expr_at : List ℕ → Option (Expr × List ℕ)
any_expr_at bytes = expr_at (length bytes) bytes

unfoldable pub option_at : List ℕ → Option (Option Expr × List ℕ)
option_at bytes = optional (after (codes "none") bytes) (any_expr_at bytes)

unfoldable pub item_at : List ℕ → Option (Item × List ℕ)
item_at bytes = do
  b0 ← after (codes "(as ") bytes
  name ← then_at (codes " ") text_at b0
  kind ← then_at (codes " ") type_at name.1
  expr ← then_at (codes ")") any_expr_at kind.1
  Some (record { name = name.0; kind = kind.0; expr = expr.0 }, expr.1)

-- a model or a source by its name
unfoldable pub named_at : List ℕ → Option (Rel × List ℕ)
named_at bytes = name_at bytes >>= λ name. closed (rels.Named name.0) name.1

-- a CTE by its place
unfoldable pub place_at : List ℕ → Option (Rel × List ℕ)
place_at bytes = number_at (2 ^ 32 - 1) bytes >>= λ n. closed (rels.Cte n.0) n.1

-- what a FROM item reads, behind the word that says which, if it was there
abbrev pub rel_by : Option (List ℕ) → Option (Rel × List ℕ) → Option (Rel × List ℕ)
rel_by None other = other
rel_by (Some rest) other = named_at rest

unfoldable pub rel_at : List ℕ → Option (Rel × List ℕ)
rel_at bytes = rel_by (after (codes "(rel ") bytes) (after (codes "(cte ") bytes >>= place_at)

unfoldable pub from_at : List ℕ → Option (FromItem × List ℕ)
from_at bytes = do
  b0 ← after (codes "(item ") bytes
  join ← join_at b0
  rel ← then_at (codes " ") rel_at join.1
  on ← then_at (codes ")") option_at rel.1
  Some (record { join = join.0; rel = rel.0; on = on.0 }, on.1)

-- whether a SELECT is distinct and whether it is grouped, behind its word
unfoldable pub modes_at : List ℕ → Option ((Bool × Bool) × List ℕ)
modes_at bytes = do
  b0 ← after (codes "(select ") bytes
  distinct ← distinct_at b0
  grouped ← grouped_at distinct.1
  Some ((distinct.0, grouped.0), grouped.1)

-- its items and what they are taken from
unfoldable pub tables_at : List ℕ → Option ((List Item × List FromItem) × List ℕ)
tables_at bytes = do
  items ← then_at (codes " ") (list_at item_at) bytes
  from ← then_at (codes " ") (list_at from_at) items.1
  Some ((items.0, from.0), from.1)

-- its filter and its keys
unfoldable pub filters_at : List ℕ → Option ((Option Expr × List Expr) × List ℕ)
filters_at bytes = do
  filter ← then_at (codes " ") option_at bytes
  keys ← then_at (codes " ") (list_at any_expr_at) filter.1
  Some ((filter.0, keys.0), keys.1)

unfoldable pub select_at : List ℕ → Option (Select × List ℕ)
select_at bytes = do
  modes ← modes_at bytes
  tables ← tables_at modes.1
  filters ← filters_at tables.1
  having ← then_at (codes ")") option_at filters.1
  Some (record { distinct = modes.0.0; grouped = modes.0.1; items = tables.0.0; from = tables.0.1; filter = filters.0.0; keys = filters.0.1; having = having.0 }, having.1)

unfoldable pub cte_at : List ℕ → Option (List Select × List ℕ)
cte_at bytes = do
  b0 ← after (codes "(cte ") bytes
  selects ← list_at select_at b0
  closed selects.0 selects.1

unfoldable pub query_at : List ℕ → Option (Query × List ℕ)
query_at bytes = do
  ctes ← then_at (codes " ") (list_at cte_at) bytes
  selects ← then_at (codes ")") (list_at select_at) ctes.1
  Some (record { ctes = ctes.0; selects = selects.0 }, selects.1)

unfoldable pub seed_at : List ℕ → Option (Defn × List ℕ)
seed_at bytes = do
  columns ← then_at (codes " ") (list_at column_at) bytes
  rows ← then_at (codes ")") (list_at row_at) columns.1
  Some (bodies.Seed columns.0 rows.0, rows.1)

-- a body, behind the word of a seed, if it was there
abbrev pub body_by : Option (List ℕ) → Option (Defn × List ℕ) → Option (Defn × List ℕ)
body_by None other = other
body_by (Some rest) other = seed_at rest

unfoldable pub body_at : List ℕ → Option (Defn × List ℕ)
body_at bytes =
    body_by (after (codes "(seed ") bytes)
    (after (codes "(query ") bytes >>= λ b. query_at b >>= λ q. Some (bodies.Sql q.0, q.1))

unfoldable pub time_at : List ℕ → Option (Option (List ℕ) × List ℕ)
time_at bytes = optional (after (codes "none") bytes) (text_at bytes)

unfoldable pub start_at : List ℕ → Option (Option ℤ × List ℕ)
start_at bytes = optional (after (codes "none") bytes) (signed_at (2 ^ 31 - 1) bytes)

unfoldable pub source_at : List ℕ → Option (Decl × List ℕ)
source_at bytes = do
  b0 ← after (codes "(source ") bytes
  name ← then_at (codes " ") name_at b0
  columns ← then_at (codes " ") (list_at column_at) name.1
  time ← time_at columns.1
  closed (record { name = name.0; columns = columns.0; time = time.0 }) time.1

-- the lookback behind a time column: the former text has none
unfoldable pub lookback_at : Form → List ℕ → Option (ℕ × List ℕ)
lookback_at forms.Current bytes = after (codes " ") bytes >>= number_at (2 ^ 32 - 1)
lookback_at forms.Former bytes = Some (0, bytes)

unfoldable pub incremental_at : Form → List ℕ → Option (Kind × List ℕ)
incremental_at form bytes = do
  b0 ← after (codes "(incremental ") bytes
  time ← text_at b0
  lookback ← lookback_at form time.1
  closed (kinds.Incremental time.0 lookback.0) lookback.1

unfoldable pub kind_at : Form → List ℕ → Option (Kind × List ℕ)
kind_at form bytes =
    behind kinds.Full (after (codes "(full)") bytes)
    (behind kinds.View (after (codes "(view)") bytes)
    (behind kinds.Seed (after (codes "(seed)") bytes) (incremental_at form bytes)))

-- the name and the kind of a definition, behind its word
unfoldable pub titled_at : Form → List ℕ → Option ((Name × Kind) × List ℕ)
titled_at form bytes = do
  b0 ← after (codes "(own ") bytes
  name ← then_at (codes " ") name_at b0
  kind ← kind_at form name.1
  b1 ← after (codes " ") kind.1
  Some ((name.0, kind.0), b1)

-- its five fields, its unit and its start
unfoldable pub timed_at : List ℕ → Option (((CronSets × TimeUnit) × Option ℤ) × List ℕ)
timed_at bytes = do
  fields ← cron_at bytes
  b0 ← after (codes " ") fields.1
  unit ← unit_at b0
  start ← start_at unit.1
  b1 ← after (codes " ") start.1
  Some (((fields.0, unit.0), start.0), b1)

unfoldable pub own_at : Form → List ℕ → Option (Own × List ℕ)
own_at form bytes = do
  titled ← titled_at form bytes
  timed ← timed_at titled.1
  cron ← checked timed.0.0.0
  sources ← then_at (codes " ") (list_at source_at) timed.1
  body ← body_at sources.1
  closed (record { name = titled.0.0; kind = titled.0.1; cron = cron; unit = timed.0.0.1; start = timed.0.1; sources = sources.0; defn = body.0 }) body.1

-- a list of texts, and nothing else
unfoldable pub list_in : List ℕ → Option (List (List ℕ))
list_in bytes = whole (list_at text_at bytes)

-- a cell, and nothing else
unfoldable pub cell_in : List ℕ → Option Cell
cell_in bytes = whole (cell_at bytes)

-- the type of a column, and nothing else
unfoldable pub type_in : List ℕ → Option ColType
type_in bytes = whole (type_at bytes)

-- a definition, and nothing else
unfoldable pub own_in : Form → List ℕ → Option Own
own_in form bytes = whole (own_at form bytes)
