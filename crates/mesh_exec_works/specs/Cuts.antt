-- The rows of a run, cut to its due parts: those of a unit are the rows whose second lies in it.
use Rattle.std.specs.Prelude.{ℕ, ℤ, List, [], ◌∷◌, if◌then◌else◌, map, Some, None}
use Rattle.std.specs.List.{flat_map}
use Rattle.std.specs.declared.option.Option.{Option}
use Rattle.mesh_base_values.specs.Kinds.{time_column}
use Rattle.mesh_base_values.specs.Picked.{cell_of}
use Rattle.mesh_base_values.specs.declared.times.Bounds.{Bounds}
use Rattle.mesh_base_values.specs.declared.values.Cell.{Cell}
use Rattle.mesh_base_values.specs.declared.values.Column.{Column}
use Rattle.mesh_base.specs.Outputs.{columns_of}
use Rattle.mesh_base.specs.declared.definitions.Own.{Own}
use Rattle.mesh_base.specs.declared.plans.Due.{Due}
use Rattle.mesh_base.specs.declared.plans.Due.TheVariants.{Whole, Unit}
use Rattle.mesh_time_days.specs.seconds.Times.{is_within, time_of}
use Rattle.mesh_house.specs.declared.world.Change.{Change}
use Rattle.mesh_spec_changes.specs.due.Plans.{Planned}
use Rattle.mesh_exec_works.specs.Written.{written}

-- the second of a row by the column of that name, where it has one
abbrev pub second_in : List Column → List ℕ → List Cell → Option ℤ
second_in columns time row = time_of (cell_of columns row time)

abbrev pub seconds_by : Option (List ℕ) → List Column → List (List Cell) → List (Option ℤ)
seconds_by None columns rows = []
seconds_by (Some time) columns rows = map (second_in columns time) rows

-- the second of each row of a model, where it has a time column
abbrev pub seconds_of : Own → List (List Cell) → List (Option ℤ)
seconds_of own rows = seconds_by (time_column own.kind) (columns_of own) rows

-- the rows whose second lies in a unit
abbrev pub rows_in : Bounds → List (List Cell) → List (Option ℤ) → List (List Cell)
rows_in u [] seconds = []
rows_in u (row ∷ rows) [] = []
rows_in u (row ∷ rows) (second ∷ seconds) = if is_within u second then row ∷ rows_in u rows seconds else rows_in u rows seconds

-- those of a due part
abbrev pub cut_to : Due → List (List Cell) → List (Option ℤ) → List (List Cell)
cut_to (Unit place start end) rows seconds = rows_in (record { start = start; end = end }) rows seconds
cut_to (Whole place marks) rows seconds = rows

-- what fills some due parts, each with its own of these rows
abbrev pub cut_fills : Planned → List Due → List (List Cell) → List (Option ℤ) → List Change
cut_fills p dues rows seconds = flat_map (λ d. written p p.node.own.kind d (cut_to d rows seconds)) dues

-- what fills a run with its rows
abbrev pub run_fills : Planned → List Due → List (List Cell) → List Change
run_fills p dues rows = cut_fills p dues rows (seconds_of p.node.own rows)
