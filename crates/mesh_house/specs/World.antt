-- What a world has, and what is read of it.
use Rattle.std.specs.Prelude.{List, [], Some, None, if◌then◌else◌}
use Rattle.std.specs.declared.option.Option.{Option}
use Rattle.mesh_list.specs.Keyed.{found}
use Rattle.mesh_base_values.specs.declared.values.Cell.{Cell}
use Rattle.mesh_base_values.specs.declared.values.Column.{Column}
use Rattle.mesh_base_values.specs.declared.values.Name.{Name}
use Rattle.mesh_base_values.specs.Names.{name_cmp}
use Rattle.mesh_house_book.specs.declared.book.Book.{Book}
use Rattle.mesh_house_book.specs.declared.versions.Version.{Version}
use Rattle.mesh_house_book.specs.Changes.{empty_book, version_object}
use Rattle.mesh_house.specs.declared.objects.Body.{Body}
use Rattle.mesh_house.specs.declared.objects.Body.TheVariants.{Rows, Stored}
use Rattle.mesh_house.specs.declared.objects.Object.{Object}
use Rattle.mesh_house.specs.Objects.{object_name, is_physical}
use Rattle.mesh_base.specs.declared.jobs.Input.{Input}
use Rattle.mesh_base.specs.Keys.{input_name}
use Rattle.mesh_house.specs.declared.world.ViewOf.{ViewOf}
use Rattle.mesh_house.specs.declared.world.World.{World}

-- views are found by their names
abbrev pub view_name : ViewOf → Name
view_name v = v.view

-- the world that has nothing
abbrev pub empty_world : World
empty_world = record { sources = []; objects = []; views = []; book = empty_book }

-- the object of that name
abbrev pub object_at : World → Name → Option Object
object_at w name = if is_physical name then found name_cmp object_name name w.objects else None

-- the source of that name
abbrev pub source_at : World → Name → Option Input
source_at w name = found name_cmp input_name name w.sources

-- a source as a table
abbrev pub as_table : Option Input → Option Object
as_table None = None
as_table (Some s) = Some (record { name = s.name; columns = s.columns; body = Rows s.rows })

-- what has rows or a query under that name: an object where two underscores adjoin in its schema, else a source
abbrev pub kept_at : World → Name → Option Object
kept_at w name = if is_physical name then found name_cmp object_name name w.objects else as_table (source_at w name)

-- an object's columns, where there is one
abbrev pub columns_of : Option Object → Option (List Column)
columns_of None = None
columns_of (Some o) = Some o.columns

-- what an object keeps, where there is one
abbrev pub body_of : Option Object → Option Body
body_of None = None
body_of (Some o) = Some o.body

-- what a view points at, where there is one
abbrev pub target_of : Option ViewOf → Option Name
target_of None = None
target_of (Some v) = Some v.target

-- the columns of the object or source of that name
abbrev pub head : World → Name → Option (List Column)
head w name = columns_of (kept_at w name)

-- what the object or source of that name keeps
abbrev pub body : World → Name → Option Body
body w name = body_of (kept_at w name)

-- the object that the view of that name points at
abbrev pub view : World → Name → Option Name
view w name = target_of (found name_cmp view_name name w.views)

-- the book
abbrev pub book : World → Book
book w = w.book

-- what a book records of an object, where it does
abbrev pub version_of : Book → Name → Option Version
version_of b object = found name_cmp version_object object b.versions

-- the rows of a table, where there is one
abbrev pub rows_of : Option Body → Option (List (List Cell))
rows_of None = None
rows_of (Some (Rows rows)) = Some rows
rows_of (Some (Stored own targets)) = None
