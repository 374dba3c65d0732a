-- The types of resolved expressions, and text literals that are dates.
use Rattle.std.specs.Prelude.{ℤ, Bool, if◌then◌else◌}
use Rattle.std.specs.declared.option.Option.{Option}
use Rattle.std.specs.declared.option.Option.TheVariants.{None, Some}
use Rattle.mesh_base_values.specs.declared.values.ColType.TheVariants.{Date}
use Rattle.mesh_base_values.specs.declared.values.Cell.{Cell}
use Rattle.mesh_base_values.specs.declared.values.Cell.TheVariants as cell
use Rattle.mesh_base.specs.declared.expressions.Expr.{Expr, out-Expr}
use Rattle.mesh_base.specs.declared.expressions.Expr as expr
use Rattle.mesh_base.specs.declared.expressions.Expr.TheOpen.{Expr-F, Literal, Macro}
use Rattle.mesh_base.specs.declared.expressions.When.{When}
use Rattle.mesh_base.specs.declared.expressions.Var.{Var}
use Rattle.mesh_base.specs.declared.expressions.Var.TheVariants.{StartDate, EndDate, StartDs, EndDs}
use Rattle.mesh_resolve_types.specs.rules.Kinds.{Kind, is_date_kind}
use Rattle.mesh_time_days.specs.casts.Dates.{day_named}
use Rattle.mesh_resolve_types.specs.declared.typed.Typed.{Typed}

abbrev pub kind_of : Typed → Kind
kind_of t = t.kind

abbrev pub is_date : Typed → Bool
is_date t = is_date_kind t.kind

abbrev pub with_date : Typed → Expr → Typed
with_date t e = record t { kind = Some Date; expr = e }

-- a text that is a real day is that day
abbrev pub day_text_as_date : Typed → Option ℤ → Typed
day_text_as_date t None = t
day_text_as_date t (Some day) = with_date t (expr.Literal (cell.Date day))

abbrev pub cell_as_date : Typed → Cell → Typed
cell_as_date t (cell.Text text) = day_text_as_date t (day_named text)
cell_as_date t _ = t

-- the day that is given as text is that day
abbrev pub macro_as_date : Typed → Var → Typed
macro_as_date t StartDs = with_date t (expr.Macro StartDate)
macro_as_date t EndDs = with_date t (expr.Macro EndDate)
macro_as_date t _ = t

abbrev pub node_as_date : Typed → Expr-F Expr When → Typed
node_as_date t (Literal value) = cell_as_date t value
node_as_date t (Macro var) = macro_as_date t var
node_as_date t _ = t

-- a text literal of a real day, and @start_ds and @end_ds, as dates
abbrev pub as_date : Typed → Typed
as_date t = node_as_date t (out-Expr t.expr)

-- the same, where a date stands beside it
abbrev pub dated : Bool → Typed → Typed
dated turn t = if turn then as_date t else t
