-- Small worlds and what they show, worked out by hand.
use Rattle.std.proofs.Common.{◌≡◌, ℕ, pos, true, false, List, [], ◌∷◌, refl, ap, ◌∙◌}
use Rattle.std.specs.Prelude.{codes}
use Rattle.std.specs.declared.option.Option.TheVariants.{None, Some}
use Rattle.mesh_base_values.specs.declared.values.Cell.{Cell}
use Rattle.mesh_base_values.specs.declared.values.Cell.TheVariants as cell
use Rattle.mesh_base_values.specs.declared.values.ColType.TheVariants as type
use Rattle.mesh_base_values.specs.declared.values.Column.{Column}
use Rattle.mesh_base_values.specs.declared.values.Name.{Name}
use Rattle.mesh_base_values.specs.declared.values.Pair.{Pair}
use Rattle.mesh_base_values.specs.declared.times.Bounds.{Bounds}
use Rattle.mesh_base_values.specs.declared.times.Unit.TheVariants as unit
use Rattle.mesh_base_values.specs.declared.kinds.Kind.TheVariants as kind
use Rattle.mesh_base_values.specs.Crons.{CronSets}
use Rattle.mesh_base.specs.declared.definitions.Decl.{Decl}
use Rattle.mesh_base.specs.declared.definitions.Defn.{Defn}
use Rattle.mesh_base.specs.declared.definitions.Defn.TheVariants as defn
use Rattle.mesh_base.specs.declared.definitions.Own.{Own}
use Rattle.mesh_base.specs.declared.expressions.Expr.{Expr, roll-Expr, out-roll-Expr}
use Rattle.mesh_base.specs.declared.expressions.Expr as expr
use Rattle.mesh_base.specs.declared.expressions.Expr.TheOpen.{Col}
use Rattle.mesh_base.specs.declared.jobs.Input.{Input}
use Rattle.mesh_base.specs.declared.queries.Query.{Query}
use Rattle.mesh_base.specs.declared.queries.FromItem.{FromItem}
use Rattle.mesh_base.specs.declared.queries.Rel.TheVariants as rel
use Rattle.mesh_base.specs.declared.queries.Join.TheVariants as join
use Rattle.mesh_spec_query.specs.Ev.{Ev, Seen, at_row, node_value, valued}
use Rattle.mesh_spec_query.proofs.Nodes.{Ev_out}
use Rattle.mesh_house_book.specs.Changes.{empty_book}
use Rattle.mesh_house.specs.declared.objects.Body.{Body}
use Rattle.mesh_house.specs.declared.objects.Body.TheVariants as body
use Rattle.mesh_house.specs.declared.world.World.{World}
use Rattle.mesh_spec_changes.specs.shown.Shown.{view_rows}

abbrev name : List ℕ → List ℕ → Name
name schema model = record { schema = schema; model = model }

-- the tables p__a.t and p__a.v, the source raw.o, and the view a.v
abbrev table : Name
table = name (codes "p__a") (codes "t")

abbrev stored : Name
stored = name (codes "p__a") (codes "v")

abbrev source : Name
source = name (codes "raw") (codes "o")

abbrev view : Name
view = name (codes "a") (codes "v")

abbrev columns : List Column
columns = record { name = codes "id"; kind = type.Int } ∷ record { name = codes "day"; kind = type.Date } ∷ []

abbrev row : ℕ → ℕ → List Cell
row id day = cell.Int (pos id) ∷ cell.Date (pos day) ∷ []

-- the source has the day in front, and one column more
abbrev loaded : Input
loaded = record {
  name = source;
  columns = record { name = codes "day"; kind = type.Date } ∷ record { name = codes "qty"; kind = type.Int } ∷ record { name = codes "id"; kind = type.Int } ∷ [];
  rows = (cell.Date (pos 20) ∷ cell.Int (pos 5) ∷ cell.Int (pos 2) ∷ []) ∷ (cell.Date (pos 10) ∷ cell.Int (pos 7) ∷ cell.Int (pos 1) ∷ []) ∷ [];
}

abbrev daily : CronSets
daily = record { minute = 1; hour = 1; dom = 0xffff_fffe; month = 0x1ffe; dow = 0x7f; dom_star = true; dow_star = true }

abbrev item : Name → FromItem
item n = record { join = join.First; rel = rel.Named n; on = None }

its_id : Expr
its_id = expr.Col 0 (codes "id")

its_day : Expr
its_day = expr.Col 0 (codes "day")

-- SELECT id, day FROM that relation
abbrev of_relation : Name → Query
of_relation n = record {
  ctes = [];
  selects = record {
    distinct = false;
    grouped = false;
    items = record { name = codes "id"; kind = type.Int; expr = its_id } ∷ record { name = codes "day"; kind = type.Date; expr = its_day } ∷ [];
    from = item n ∷ [];
    filter = None;
    keys = [];
    having = None;
  } ∷ [];
}

abbrev own : List Decl → Defn → Own
own sources d = record { name = view; kind = kind.View; cron = daily; unit = unit.Day; start = None; sources = sources; defn = d }

abbrev declares : List Decl
declares = record { name = source; columns = columns; time = None } ∷ []

-- the table a.t of two rows, and an object that keeps this, at which the view points
abbrev world : Body → Name → World
world kept target = record {
  sources = loaded ∷ [];
  objects = record { name = table; columns = columns; body = body.Rows (row 3 30 ∷ row 4 40 ∷ []) } ∷ record { name = stored; columns = columns; body = kept } ∷ [];
  views = record { view = view; target = target } ∷ [];
  book = empty_book;
}

-- the table by the name that a query has for it
abbrev parent : Pair
parent = record { first = name (codes "a") (codes "t"); second = table }

-- the same at an object that isn't there
abbrev lost : Pair
lost = record { first = name (codes "a") (codes "u"); second = name (codes "p__a") (codes "u") }

a_table : view_rows (world (body.Rows []) table) view ≡ Some (row 3 30 ∷ row 4 40 ∷ [])
a_table = refl

-- a view at a source's name shows nothing
a_source : view_rows (world (body.Rows []) source) view ≡ None
a_source = refl

no_such_view : view_rows (world (body.Rows []) table) table ≡ None
no_such_view = refl

-- a stored definition that has no query
a_seed : view_rows (world (body.Stored (own [] (defn.Seed columns (row 1 1 ∷ []))) []) stored) view ≡ None
a_seed = refl

-- a target that isn't there, which the query names or doesn't name
a_lost_target : view_rows (world (body.Stored (own [] (defn.Sql (of_relation (name (codes "a") (codes "u"))))) (lost ∷ [])) stored) view ≡ None
a_lost_target = refl

an_unnamed_target : view_rows (world (body.Stored (own [] (defn.Sql (of_relation (name (codes "a") (codes "t"))))) (parent ∷ lost ∷ [])) stored) view ≡ None
an_unnamed_target = refl

-- a relation that is neither a target nor a declared source, though a source of that name is there
an_undeclared_source : view_rows (world (body.Stored (own [] (defn.Sql (of_relation source))) (parent ∷ [])) stored) view ≡ None
an_undeclared_source = refl

column_is : (at : ℕ) (c : List ℕ) (u : Bounds) (seen : Seen) → Ev (expr.Col at c) (at_row u seen) ≡ seen at c
unfolding roll-Expr denote.Hole.Carrier.roll
column_is at c u seen = Ev_out (expr.Col at c) (at_row u seen) ∙ ap (λ d. node_value (valued d) (at_row u seen)) (out-roll-Expr (Col at c))

its_id_is : (u : Bounds) (seen : Seen) → Ev its_id (at_row u seen) ≡ seen 0 (codes "id")
unfolding its_id
its_id_is u seen = column_is 0 (codes "id") u seen

its_day_is : (u : Bounds) (seen : Seen) → Ev its_day (at_row u seen) ≡ seen 0 (codes "day")
unfolding its_day
its_day_is u seen = column_is 0 (codes "day") u seen

-- a stored query over a table
over_a_table : view_rows (world (body.Stored (own [] (defn.Sql (of_relation (name (codes "a") (codes "t"))))) (parent ∷ [])) stored) view ≡ Some (row 3 30 ∷ row 4 40 ∷ [])
over_a_table = simp (its_id_is, its_day_is) refl

-- one over a declared source, whose columns come in another order
over_a_source : view_rows (world (body.Stored (own declares (defn.Sql (of_relation source))) (parent ∷ [])) stored) view ≡ Some (row 2 20 ∷ row 1 10 ∷ [])
over_a_source = simp (its_id_is, its_day_is) refl
