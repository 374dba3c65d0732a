-- What every declared source keeps.
use Rattle.std.specs.Prelude.{Bool, true, ◌&&◌, not, List, [], ◌∷◌, ◌++◌, ℕ}
use Rattle.std.specs.declared.option.Option.{Option}
use Rattle.std.specs.declared.option.Option.TheVariants.{None, Some}
use Rattle.mesh_base.specs.declared.definitions.Decl.{Decl}
use Rattle.mesh_base_values.specs.declared.values.Column.{Column}
use Rattle.mesh_model_csv.specs.external.Externals.{has_column}

-- none of the columns has the name of one in front of it, where these stand in front of all
abbrev pub are_new : List Column → List Column → Bool
are_new front [] = true
are_new front (c ∷ cs) = not (has_column front c.name) && are_new (front ++ c ∷ []) cs

abbrev pub has_its_time : List Column → Option (List ℕ) → Bool
has_its_time columns None = true
has_its_time columns (Some time) = has_column columns time

-- the columns have distinct names, and the time column is one of them
abbrev pub is_proper : Decl → Bool
is_proper d = are_new [] d.columns && has_its_time d.columns d.time
