-- A source, cut to what a model declares of it, and the tables that a definition reads.
use Rattle.std.specs.Prelude.{Bool, false, if◌then◌else◌, List, [], ◌++◌, map}
use Rattle.std.specs.List.{find, list_all}
use Rattle.std.specs.declared.option.Option.{Option}
use Rattle.std.specs.declared.option.Option.TheVariants.{None, Some}
use Rattle.mesh_list.specs.Keyed.{found}
use Rattle.mesh_base_values.specs.declared.values.Cell.{Cell}
use Rattle.mesh_base_values.specs.declared.values.ColType.{ColType}
use Rattle.mesh_base_values.specs.declared.values.Column.{Column}
use Rattle.mesh_base.specs.declared.jobs.Input.{Input}
use Rattle.mesh_base.specs.declared.definitions.Decl.{Decl}
use Rattle.mesh_base.specs.declared.definitions.Own.{Own}
use Rattle.mesh_base.specs.Keys.{input_name}
use Rattle.mesh_base_values.specs.Names.{name_cmp}
use Rattle.mesh_base_values.specs.Picked.{same_text, picked_rows}
use Rattle.mesh_base_values.specs.Types.{same_type}

-- there is a column, and it has this type
abbrev pub is_of_type : ColType → Option Column → Bool
is_of_type type None = false
is_of_type type (Some c) = same_type c.kind type

-- each declared column is there with its type
abbrev pub has_shape : List Column → List Column → Bool
has_shape declared columns = list_all (λ (d : Column). is_of_type d.kind (find (λ c. same_text c.name d.name) columns)) declared

-- a table's rows with the declared columns alone, in declared order; no row where there is no table, or another shape
abbrev pub declared_rows : List Column → Option Input → List (List Cell)
declared_rows declared None = []
declared_rows declared (Some s) = if has_shape declared s.columns then picked_rows (map (λ (d : Column). d.name) declared) s.columns s.rows else []

-- the source of that name
abbrev pub source_named : List Input → Decl → Option Input
source_named sources d = found name_cmp input_name d.name sources

-- a declared source as a table that a query reads
abbrev pub declared : List Input → Decl → Input
declared sources d = record { name = d.name; columns = d.columns; rows = declared_rows d.columns (source_named sources d) }

-- the tables that a definition reads: the sources that it declares, in its order, and behind them these tables
abbrev pub inputs : List Input → Own → List Input → List Input
inputs sources own tables = map (declared sources) own.sources ++ tables
