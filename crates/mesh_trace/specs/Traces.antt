-- The trace of a column, and the columns whose traces have one.
use Rattle.std.specs.Prelude.{◌≡◌, IsTrue, ℕ, Bool, not, ◌&&◌, ◌||◌, List, filter}
use Rattle.std.specs.List.{find, list_any, slice_get}
use Rattle.std.specs.Option.{is_some, option_cmp}
use Rattle.std.specs.Ordering.{is_eq, ordering_then}
use Rattle.std.specs.declared.cmp.Ordering.{Ordering}
use Rattle.std.specs.declared.option.Option.{Option}
use Rattle.std.specs.declared.option.Option.TheVariants.{None, Some}
use Rattle.mesh_base_values.specs.Names.{name_cmp, text_cmp}
use Rattle.mesh_base_values.specs.declared.values.Name.{Name}
use Rattle.mesh_spec_model.specs.Closures.{Closure, own_of}
use Rattle.mesh_base.specs.Outputs.{columns_of}
use Rattle.mesh_base.specs.rules.Seen.{has_column}
use Rattle.mesh_trace.specs.declared.traces.Trace.{Trace}

-- by relation, and then by column, a relation alone before its columns
abbrev pub trace_cmp : Trace → Trace → Ordering
trace_cmp a b = ordering_then (name_cmp a.relation b.relation) (option_cmp text_cmp a.column b.column)

abbrev pub trace_itself : Trace → Trace
trace_itself t = t

-- some column of a relation is among them
abbrev pub has_column_of : List Trace → Name → Bool
has_column_of all name = list_any (λ (t : Trace). is_some t.column && is_eq (name_cmp t.relation name)) all

-- a relation is listed alone only where none of its columns is
abbrev pub is_listed : List Trace → Trace → Bool
is_listed all t = is_some t.column || not (has_column_of all t.relation)

abbrev pub listed : List Trace → List Trace
listed all = filter (is_listed all) all

-- the model of a name
abbrev pub model_named : List Closure → Name → Option Closure
model_named cs name = find (λ c. is_eq (name_cmp (own_of c).name name)) cs

-- the one at a place, if there is one
abbrev pub place_in : List Closure → Option ℕ → Option Closure
place_in cs None = None
place_in cs (Some at) = slice_get cs at

-- there is a model of this name, and it has this column
abbrev pub HasColumn : List Closure → Name → List ℕ → Type 0
HasColumn cs name column = (c : Closure) × (model_named cs name ≡ Some c) × IsTrue (has_column (columns_of (own_of c)) column)
