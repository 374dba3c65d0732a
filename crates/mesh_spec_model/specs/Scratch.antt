-- The rows of a model from scratch: from the sources, seeds and definitions alone.
use Rattle.std.specs.Prelude.{ℕ, pos, Bool, false, if◌then◌else◌, List, [], ◌∷◌}
use Rattle.std.specs.List.{filter, flat_map}
use Rattle.std.specs.declared.option.Option.{Option}
use Rattle.std.specs.declared.option.Option.TheVariants.{None, Some}
use Rattle.mesh_base_values.specs.declared.times.Bounds.{Bounds}
use Rattle.mesh_base_values.specs.declared.values.Cell.{Cell}
use Rattle.mesh_base.specs.declared.jobs.Input.{Input}
use Rattle.mesh_base_values.specs.declared.values.Column.{Column}
use Rattle.mesh_base_values.specs.Kinds.{is_incremental, time_column}
use Rattle.mesh_base.specs.declared.definitions.Defn.{Defn}
use Rattle.mesh_base.specs.declared.definitions.Defn.TheVariants.{Seed, Sql}
use Rattle.mesh_base.specs.declared.definitions.Own.{Own}
use Rattle.mesh_base.specs.Outputs.{columns_of}
use Rattle.mesh_spec_query.specs.Sel.{Sel}
use Rattle.mesh_spec_model.specs.Closures.{Closure, Closures, Model, Alone, With, own_of}
use Rattle.mesh_spec_model.specs.Horizons.{Clock, schedule}
use Rattle.mesh_time_days.specs.seconds.Times.{lies_in}
use Rattle.mesh_spec_model.specs.Sources.{inputs}

-- what a query is evaluated for where no interval is named
abbrev pub no_bounds : Bounds
no_bounds = record { start = pos 0; end = pos 0 }

-- a seed's rows, or those of a query over the tables that it reads
abbrev pub defn_rows : Defn → List Input → Bounds → List (List Cell)
defn_rows (Seed columns rows) inputs u = rows
defn_rows (Sql q) inputs u = Sel q inputs u

-- whether a row lies in a unit by a time column; without one it lies in none
abbrev pub lies_by : Option (List ℕ) → List Column → Bounds → List Cell → Bool
lies_by None columns u row = false
lies_by (Some time) columns u row = lies_in columns time u row

-- whether a model's row lies in a unit, by the time column of its kind
abbrev pub is_of_unit : Own → Bounds → List Cell → Bool
is_of_unit own u row = lies_by (time_column own.kind) (columns_of own) u row

-- the rows of one unit: the query's for that unit that lie in it
abbrev pub piece_over : Own → List Input → Bounds → List (List Cell)
piece_over own inputs u = filter (is_of_unit own u) (defn_rows own.defn inputs u)

-- the rows of a model over the tables that it reads: unit by unit where it is incremental, and otherwise all at once
abbrev pub rows_over : Own → List Input → List Bounds → List (List Cell)
rows_over own inputs units = if is_incremental own.kind then flat_map (piece_over own inputs) units else defn_rows own.defn inputs no_bounds

-- a model as a table that others read
abbrev pub table_of : Own → List (List Cell) → Input
table_of own rows = record { name = own.name; columns = columns_of own; rows = rows }

-- A closure's rows, and the tables that its parents are; a model reads its declared sources and its parents.
abbrev mutual
  pub from_scratch : List Input → Clock → Closure → List (List Cell)
  from_scratch sources clock (Model own parents) = rows_over own (inputs sources own (tables sources clock parents)) (schedule clock (Model own parents))

  pub tables : List Input → Clock → Closures → List Input
  tables sources clock Alone = []
  tables sources clock (With c cs) = table_of (own_of c) (from_scratch sources clock c) ∷ tables sources clock cs

-- the tables that a closure's definition reads
abbrev pub inputs_of : List Input → Clock → Closure → List Input
inputs_of sources clock (Model own parents) = inputs sources own (tables sources clock parents)

-- the rows of a closure for one unit
abbrev pub piece : List Input → Clock → Closure → Bounds → List (List Cell)
piece sources clock c u = piece_over (own_of c) (inputs_of sources clock c) u
