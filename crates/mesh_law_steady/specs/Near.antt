-- The tables that a model reads, cut to the rows that its query for a unit can see.
use Rattle.std.specs.Prelude.{ℕ, List, [], ◌∷◌, ◌++◌, map}
use Rattle.std.specs.List.{filter}
use Rattle.std.specs.declared.option.Option.{Option}
use Rattle.std.specs.declared.option.Option.TheVariants.{None, Some}
use Rattle.mesh_base_values.specs.Kinds.{time_column}
use Rattle.mesh_base_values.specs.declared.times.Bounds.{Bounds}
use Rattle.mesh_base_values.specs.declared.values.Cell.{Cell}
use Rattle.mesh_base_values.specs.declared.values.Column.{Column}
use Rattle.mesh_base.specs.Outputs.{columns_of}
use Rattle.mesh_base.specs.declared.definitions.Decl.{Decl}
use Rattle.mesh_base.specs.declared.definitions.Own.{Own}
use Rattle.mesh_base.specs.declared.jobs.Input.{Input}
use Rattle.mesh_time_days.specs.seconds.Times.{lies_in}
use Rattle.mesh_spec_model.specs.Closures.{Closure, Closures, Alone, With, own_of}
use Rattle.mesh_spec_model.specs.Scratch.{table_of}
use Rattle.mesh_spec_changes.specs.steady.Arrives.{from_its_day}

-- rows whose time lies in the unit, or on its day before it; all rows where there is no time column
abbrev pub near : Bounds → Option (List ℕ) → List Column → List (List Cell) → List (List Cell)
near u None columns rows = rows
near u (Some time) columns rows = filter (lies_in columns time (from_its_day u)) rows

-- a declared source with these rows, and a parent's table
abbrev pub source_of : (Decl → List (List Cell)) → Decl → Input
source_of rows d = record { name = d.name; columns = d.columns; rows = rows d }

abbrev pub parents_with : (Closure → List (List Cell)) → Closures → List Input
parents_with rows Alone = []
parents_with rows (With c cs) = table_of (own_of c) (rows c) ∷ parents_with rows cs

-- the tables that a model reads, where its sources and its parents have these rows
abbrev pub inputs_with : (Decl → List (List Cell)) → (Closure → List (List Cell)) → Own → Closures → List Input
inputs_with sources models own parents = map (source_of sources) own.sources ++ parents_with models parents

-- those rows of a source and of a model that are near
abbrev pub near_source : Bounds → (Decl → List (List Cell)) → Decl → List (List Cell)
near_source u rows d = near u d.time d.columns (rows d)

abbrev pub near_model : Bounds → (Closure → List (List Cell)) → Closure → List (List Cell)
near_model u rows c = near u (time_column (own_of c).kind) (columns_of (own_of c)) (rows c)
