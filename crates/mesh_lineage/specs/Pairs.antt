-- A column of a relation as a pair, which has the order of readings, and two names as a pair.
use Rattle.std.specs.Prelude.{ℕ, List, map}
use Rattle.mesh_base_values.specs.declared.values.Name.{Name}
use Rattle.mesh_base_values.specs.declared.values.Pair.{Pair}
use Rattle.mesh_base.specs.declared.definitions.Reading.{Reading}

abbrev pub as_reading : Name × List ℕ → Reading
as_reading (name, column) = record { relation = name; column = column }

abbrev pub as_readings : List (Name × List ℕ) → List Reading
as_readings pairs = map as_reading pairs

abbrev pub as_pair : Name × Name → Pair
as_pair (first, second) = record { first = first; second = second }

abbrev pub as_pairs : List (Name × Name) → List Pair
as_pairs pairs = map as_pair pairs
