-- The output columns of a model.
use Rattle.std.specs.Prelude.{List, [], ◌∷◌, map}
use Rattle.mesh_base_values.specs.declared.values.Column.{Column}
use Rattle.mesh_base.specs.declared.queries.Item.{Item}
use Rattle.mesh_base.specs.declared.queries.Select.{Select}
use Rattle.mesh_base.specs.declared.definitions.Defn.{Defn}
use Rattle.mesh_base.specs.declared.definitions.Defn.TheVariants.{Seed, Sql}
use Rattle.mesh_base.specs.declared.definitions.Own.{Own}

-- the name and the type of an item
abbrev pub item_column : Item → Column
item_column item = record { name = item.name; kind = item.kind }

abbrev pub item_columns : List Item → List Column
item_columns items = map item_column items

-- the columns of a UNION ALL are those of its first SELECT
abbrev pub select_columns : List Select → List Column
select_columns [] = []
select_columns (s ∷ ss) = item_columns s.items

-- a seed's columns, or those of its query
abbrev pub defn_columns : Defn → List Column
defn_columns (Seed columns rows) = columns
defn_columns (Sql query) = select_columns query.selects

abbrev pub columns_of : Own → List Column
columns_of own = defn_columns own.defn
