-- What is read of a warehouse to show an object.
use Rattle.std.specs.Prelude.{◌≡◌, ℕ, zero, suc, Bool, if◌then◌else◌, List, [], map, Some, None, IsTrue}
use Rattle.std.specs.List.{list_any}
use Rattle.std.specs.Ordering.{is_eq}
use Rattle.std.specs.declared.option.Option.{Option}
use Rattle.mesh_list.specs.Keyed.{found}
use Rattle.mesh_base_values.specs.declared.values.Cell.{Cell}
use Rattle.mesh_base_values.specs.declared.values.Column.{Column}
use Rattle.mesh_base_values.specs.declared.values.Name.{Name}
use Rattle.mesh_base_values.specs.declared.values.Pair.{Pair}
use Rattle.mesh_base_values.specs.Names.{name_cmp}
use Rattle.mesh_base_values.specs.Picked.{picked_rows}
use Rattle.mesh_base.specs.rules.Seen.{or_no_columns}
use Rattle.mesh_spec_model.specs.Sources.{has_shape}
use Rattle.mesh_house.specs.declared.objects.Body.{Body}
use Rattle.mesh_house.specs.declared.objects.Body.TheVariants as body
use Rattle.mesh_house.specs.declared.world.World.{World}
use Rattle.mesh_house.specs.Sources.{are_plain}
use Rattle.mesh_house.specs.World.{object_at, columns_of, rows_of}
use Rattle.mesh_spec_changes.specs.shown.Shown.{body_rows, rows_through}
use Rattle.mesh_layer.specs.declared.kept.Kept.{Kept}
use Rattle.mesh_layer.specs.declared.kept.Kept.TheVariants as kept
use Rattle.mesh_layer.specs.declared.known.Entry.{Entry}
use Rattle.mesh_layer.specs.declared.known.Found.{Found}

-- a body as it is read: the rows of a table, or that of a stored query
abbrev pub kept_of : Body → Kept
kept_of (body.Rows rows) = kept.Rows rows
kept_of (body.Stored own targets) = kept.Query (body.Stored own targets)

-- a source's rows with the declared columns alone, by the columns and rows that are there
abbrev pub read_rows : List Column → Option (List Column) → Option (List (List Cell)) → List (List Cell)
read_rows declared None rows = []
read_rows declared (Some columns) None = []
read_rows declared (Some columns) (Some rows) = if has_shape declared columns then picked_rows (map (λ (d : Column). d.name) declared) columns rows else []

-- what a body shows through so many stored queries, its own among them
abbrev pub body_through : ℕ → World → Body → Option (List (List Cell))
body_through zero w b = rows_of (Some b)
body_through (suc height) w b = body_rows (rows_through height w) w b

-- a name is one of these targets'
abbrev pub is_target : List Pair → Name → Bool
is_target targets name = list_any (λ (t : Pair). is_eq (name_cmp t.first name)) targets

-- an object's columns, and its rows through so many stored queries
pub record IsFound (w : World) (name : Name) (f : Found) : Type 0 where
  pub rows : rows_through f.height w name ≡ Some f.rows
  pub columns : or_no_columns (columns_of (object_at w name)) ≡ f.columns

-- entries are found by their names
abbrev pub entry_name : Entry → Name
entry_name e = e.name

-- what is kept under each name is so found
abbrev pub AreKnown : World → List Entry → Type 0
AreKnown w known = (name : Name) (e : Entry) → found name_cmp entry_name name known ≡ Some e → IsFound w name e.found

-- what a walk over a world begins with: its sources have names that sources may have, and what is kept is so found
pub record Given (w : World) (known : List Entry) : Type 0 where
  pub plain : IsTrue (are_plain w.sources)
  pub kept : AreKnown w known
