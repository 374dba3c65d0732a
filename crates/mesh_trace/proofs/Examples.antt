-- What columns are fed by, worked out by hand.
use Rattle.std.proofs.Common.{◌≡◌, ℕ, pos, true, false, List, [], ◌∷◌, ◌++◌, refl, ap₂, ◌∙◌}
use Rattle.std.specs.Prelude.{codes}
use Rattle.std.specs.declared.option.Option.{Option}
use Rattle.std.specs.declared.option.Option.TheVariants.{Some, None}
use Rattle.mesh_base_values.specs.Crons.{CronSets}
use Rattle.mesh_base_values.specs.declared.kinds.Kind.{Kind}
use Rattle.mesh_base_values.specs.declared.kinds.Kind.TheVariants as kind
use Rattle.mesh_base_values.specs.declared.times.Unit.TheVariants as unit
use Rattle.mesh_base_values.specs.declared.values.Cell.TheVariants as cell
use Rattle.mesh_base_values.specs.declared.values.ColType.TheVariants as type
use Rattle.mesh_base_values.specs.declared.values.Name.{Name}
use Rattle.mesh_base.specs.declared.definitions.Defn.TheVariants as defn
use Rattle.mesh_base.specs.declared.definitions.Own.{Own}
use Rattle.mesh_base.specs.declared.definitions.Reading.{Reading}
use Rattle.mesh_base.specs.declared.expressions.Expr.{Expr, fold-roll-Expr, roll-Expr}
use Rattle.mesh_base.specs.declared.expressions.Expr as expr
use Rattle.mesh_base.specs.declared.expressions.Expr.TheOpen.{Col, Binary, CountAll, Literal}
use Rattle.mesh_base.specs.declared.expressions.Op.TheVariants as op
use Rattle.mesh_base.specs.declared.queries.FromItem.{FromItem}
use Rattle.mesh_base.specs.declared.queries.Item.{Item}
use Rattle.mesh_base.specs.declared.queries.Join.{Join}
use Rattle.mesh_base.specs.declared.queries.Join.TheVariants as join
use Rattle.mesh_base.specs.declared.queries.Rel.TheVariants as rel
use Rattle.mesh_base.specs.declared.queries.Select.{Select}
use Rattle.mesh_spec_model.specs.Closures.{Closure, Model, Alone, With}
use Rattle.mesh_spec_query.specs.Named.{Place, columns, columns_here, columns_when}
use Rattle.mesh_trace.specs.Feeds.{feeds, needs}
use Rattle.mesh_trace.specs.Traces.{listed}
use Rattle.mesh_trace.specs.declared.traces.Trace.{Trace}

abbrev every_day : CronSets
every_day = record { minute = 1; hour = 1; dom = 0xffff_fffe; month = 0x1ffe; dow = 0x7f; dom_star = true; dow_star = true }

abbrev x : List ℕ
x = codes "x"

abbrev y : List ℕ
y = codes "y"

abbrev k : List ℕ
k = codes "k"

abbrev p : Name
p = record { schema = codes "a"; model = codes "p" }

abbrev q : Name
q = record { schema = codes "a"; model = codes "q" }

-- `p.x`, `p.y`, `q.y`, `p.k = q.k`, `COUNT(*)`, `1`
p_x : Expr
p_x = expr.Col 0 x

p_y : Expr
p_y = expr.Col 0 y

q_y : Expr
q_y = expr.Col 1 y

same_k : Expr
same_k = expr.Binary op.Eq (expr.Col 0 k) (expr.Col 1 k)

count : Expr
count = expr.CountAll

one : Expr
one = expr.Literal (cell.Int (pos 1))

column_names : (item : ℕ) (name : List ℕ) → columns (expr.Col item name) ≡ (item, name) ∷ []
unfolding roll-Expr denote.Hole.Carrier.roll
column_names item name = fold-roll-Expr (List Place) (List Place) columns_here columns_when (Col item name)

p_x_names : columns p_x ≡ (0, x) ∷ []
unfolding p_x
p_x_names = column_names 0 x

p_y_names : columns p_y ≡ (0, y) ∷ []
unfolding p_y
p_y_names = column_names 0 y

q_y_names : columns q_y ≡ (1, y) ∷ []
unfolding q_y
q_y_names = column_names 1 y

same_k_names : columns same_k ≡ (0, k) ∷ (1, k) ∷ []
unfolding same_k roll-Expr denote.Hole.Carrier.roll
same_k_names =
    fold-roll-Expr (List Place) (List Place) columns_here columns_when (Binary op.Eq (expr.Col 0 k) (expr.Col 1 k))
    ∙ ap₂ (λ a b. a ++ b) (column_names 0 k) (column_names 1 k)

count_names : columns count ≡ []
unfolding count roll-Expr denote.Hole.Carrier.roll
count_names = fold-roll-Expr (List Place) (List Place) columns_here columns_when CountAll

one_names : columns one ≡ []
unfolding one roll-Expr denote.Hole.Carrier.roll
one_names = fold-roll-Expr (List Place) (List Place) columns_here columns_when (Literal (cell.Int (pos 1)))

abbrev item : List ℕ → Expr → Item
item name e = record { name = name; kind = type.Int; expr = e }

-- FROM a.p, FROM a.q, and a.q joined to a.p
abbrev of_p : List FromItem
of_p = record { join = join.First; rel = rel.Named p; on = None } ∷ []

abbrev of_q : List FromItem
of_q = record { join = join.First; rel = rel.Named q; on = None } ∷ []

abbrev joined : Join → Option Expr → List FromItem
joined j on = record { join = join.First; rel = rel.Named p; on = None } ∷ record { join = j; rel = rel.Named q; on = on } ∷ []

abbrev select : List FromItem → List Item → Select
select from items = record { distinct = false; grouped = false; items = items; from = from; filter = None; keys = []; having = None }

abbrev own : Kind → List (List Select) → List Select → Own
own kind ctes selects = record { name = record { schema = codes "a"; model = codes "m" }; kind = kind; cron = every_day; unit = unit.Day; start = None; sources = []; defn = defn.Sql (record { ctes = ctes; selects = selects }) }

abbrev full : Select → Own
full s = own kind.Full [] (s ∷ [])

abbrev of : Name → List ℕ → Reading
of relation column = record { relation = relation; column = column }

abbrev lone : Name → Trace
lone relation = record { relation = relation; column = None }

abbrev trace : Name → List ℕ → Trace
trace relation column = record { relation = relation; column = Some column }

-- x of `SELECT p.x, q.y FROM a.p AS p CROSS JOIN a.q AS q`
right_side_gives_no_column : listed (feeds (Model (full (select (joined join.Cross None) (item x p_x ∷ item y q_y ∷ []))) Alone) (x ∷ [])) ≡ lone q ∷ trace p x ∷ []
right_side_gives_no_column = simp p_x_names refl

-- x of `SELECT p.x, p.y FROM a.p AS p LEFT JOIN a.q AS q ON p.k = q.k`
on_counts : needs (full (select (joined join.Left (Some same_k)) (item x p_x ∷ item y p_y ∷ []))) (x ∷ []) ≡ of p k ∷ of p x ∷ of q k ∷ []
on_counts = simp (p_x_names, same_k_names) refl

-- x of `SELECT x FROM a.p WHERE y`
filter_counts : needs (full (record (select of_p (item x p_x ∷ [])) { filter = Some p_y })) (x ∷ []) ≡ of p x ∷ of p y ∷ []
filter_counts = simp (p_x_names, p_y_names) refl

-- x of `SELECT COUNT(*) AS x FROM a.p GROUP BY y`, and of one with HAVING y
key_counts : needs (full (record (select of_p (item x count ∷ [])) { grouped = true; keys = p_y ∷ [] })) (x ∷ []) ≡ of p y ∷ []
key_counts = simp (count_names, p_y_names) refl

having_counts : needs (full (record (select of_p (item x count ∷ [])) { grouped = true; having = Some p_y })) (x ∷ []) ≡ of p y ∷ []
having_counts = simp (count_names, p_y_names) refl

-- x of `SELECT COUNT(*) AS x FROM a.p`, and of `SELECT 1 AS x, y FROM a.p`
count_hangs_on_rows : listed (feeds (Model (full (record (select of_p (item x count ∷ [])) { grouped = true })) Alone) (x ∷ [])) ≡ lone p ∷ []
count_hangs_on_rows = simp count_names refl

literal_hangs_on_rows : listed (feeds (Model (full (select of_p (item x one ∷ item y p_y ∷ []))) Alone) (x ∷ [])) ≡ lone p ∷ []
literal_hangs_on_rows = simp one_names refl

-- x of `SELECT x, y FROM a.p UNION ALL SELECT y, x FROM a.p`, and of `WITH c AS (SELECT y FROM a.q) SELECT x FROM a.p`
union_counts_whole : needs (own kind.Full [] (select of_p (item x p_x ∷ item y p_y ∷ []) ∷ select of_p (item x p_y ∷ item y p_x ∷ []) ∷ [])) (x ∷ []) ≡ of p x ∷ of p y ∷ []
union_counts_whole = simp (p_x_names, p_y_names) refl

unused_cte_counts : needs (own kind.Full ((select (joined join.Cross None) (item y q_y ∷ []) ∷ []) ∷ []) (select of_p (item x p_x ∷ []) ∷ [])) (x ∷ []) ≡ of p x ∷ of q y ∷ []
unused_cte_counts = simp (p_x_names, q_y_names) refl

-- x of `SELECT DISTINCT x, y FROM a.p`
distinct_counts_whole : needs (full (record (select of_p (item x p_x ∷ item y p_y ∷ [])) { distinct = true })) (x ∷ []) ≡ of p x ∷ of p y ∷ []
distinct_counts_whole = simp (p_x_names, p_y_names) refl

-- x of an incremental model whose time column is y
time_counts : needs (own (kind.Incremental y 0) [] (select of_p (item x p_x ∷ item y p_y ∷ []) ∷ [])) (x ∷ []) ≡ of p x ∷ of p y ∷ []
time_counts = simp (p_x_names, p_y_names) refl

-- x over the view a.p, `SELECT x, y FROM a.q`
abbrev view : Closure
view = Model (record (own kind.View [] (select of_q (item x p_x ∷ item y p_y ∷ []) ∷ [])) { name = p }) Alone

through_a_view : listed (feeds (Model (full (select of_p (item x p_x ∷ []))) (With view Alone)) (x ∷ [])) ≡ trace p x ∷ trace q x ∷ []
through_a_view = simp p_x_names refl

-- and a column of it that hangs on its rows alone
rows_of_a_view : listed (feeds (Model (full (record (select of_p (item x count ∷ [])) { grouped = true })) (With view Alone)) (x ∷ [])) ≡ lone p ∷ lone q ∷ []
rows_of_a_view = simp count_names refl
