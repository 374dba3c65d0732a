-- What each kind of change makes of a world. All that a change doesn't speak of is as before.
use Rattle.std.specs.Prelude.{ℕ, Bool, List, [], ◌∷◌, ◌++◌, Some, None, ℤ, if◌then◌else◌}
use Rattle.std.specs.declared.option.Option.{Option}
use Rattle.mesh_list.specs.Keyed.{placed, without, exchanged}
use Rattle.mesh_base_values.specs.declared.values.Cell.{Cell}
use Rattle.mesh_base_values.specs.declared.values.Column.{Column}
use Rattle.mesh_base_values.specs.declared.values.Name.{Name}
use Rattle.mesh_base_values.specs.declared.values.Pair.{Pair}
use Rattle.mesh_base.specs.declared.definitions.Own.{Own}
use Rattle.mesh_base_values.specs.Names.{name_cmp}
use Rattle.mesh_house_book.specs.declared.book.Book.{Book}
use Rattle.mesh_house_book.specs.Changes.{raise_moment, put_snapshot, make_table as table_made, make_view as view_made, record_range, record_marks, set_pending, finalize, expire, forget_version, delete_snapshot, delete_env}
use Rattle.mesh_house_book.specs.moves.Forgets.{forget_units}
use Rattle.mesh_house_book.specs.moves.Renames.{migrate}
use Rattle.mesh_house.specs.declared.objects.Body.{Body}
use Rattle.mesh_house.specs.declared.objects.Body.TheVariants.{Rows, Stored}
use Rattle.mesh_house.specs.declared.objects.Object.{Object}
use Rattle.mesh_house.specs.Objects.{object_name, is_physical}
use Rattle.mesh_base.specs.declared.jobs.Input.{Input}
use Rattle.mesh_base.specs.Keys.{input_name}
use Rattle.mesh_house.specs.declared.world.World.{World}
use Rattle.mesh_house.specs.declared.world.Change.{Change}
use Rattle.mesh_house.specs.declared.world.Change.TheVariants.{Moment, Load, PutSnapshot, MakeTable, MakeView, ReplaceRows, WriteRange, RecordRange, RecordMarks, SetPending, PointView, DropView, Finalize, Expire, ForgetVersion, DropObject, DeleteSnapshot, DeleteEnv, ForgetUnits, Migrate}
use Rattle.mesh_house.specs.World.{view_name, object_at, source_at}
use Rattle.mesh_time_days.specs.seconds.Rows.{rewritten}

-- the world with this book
abbrev pub with_book : World → Book → World
with_book w b = record w { book = b }

-- the world with this object at its place
abbrev pub with_object : World → Object → World
with_object w o = record w { objects = placed name_cmp object_name o w.objects }

-- a source's rows, where there is one and they are kept
abbrev pub kept_rows : Bool → Option Input → List (List Cell)
kept_rows keep None = []
kept_rows keep (Some s) = if keep then s.rows else []

-- the source has these columns and rows, after the rows that are kept; a name that an object may have is no source's
abbrev pub load : World → Name → List Column → List (List Cell) → Bool → World
load w name columns rows keep =
    if is_physical name then w
    else record w { sources = placed name_cmp input_name (record { name = name; columns = columns; rows = kept_rows keep (source_at w name) ++ rows }) w.sources }

-- the object is there, instead of the one that had its name, and the book is this; a name that no object may have has
-- none
abbrev pub make : World → Object → Book → World
make w o b = if is_physical o.name then with_book (with_object w o) b else w

-- an empty table is there
abbrev pub make_table : World → Name → List Column → World
make_table w name columns = make w (record { name = name; columns = columns; body = Rows [] }) (table_made w.book name)

-- the query is stored there
abbrev pub make_view : World → Name → List Column → Own → List Pair → World
make_view w name columns own targets = make w (record { name = name; columns = columns; body = Stored own targets }) (view_made w.book name)

-- a table keeps these rows instead of its own
abbrev pub filled : Body → List Column → World → Name → List (List Cell) → World
filled (Rows old) columns w name rows = with_object w (record { name = name; columns = columns; body = Rows rows })
filled (Stored own targets) columns w name rows = w

-- the object's rows are these, and where there is none nothing happens
abbrev pub filled_at : Option Object → World → Name → List (List Cell) → World
filled_at None w name rows = w
filled_at (Some o) w name rows = filled o.body o.columns w name rows

-- the rows of the table of that name are these
abbrev pub replace_rows : World → Name → List (List Cell) → World
replace_rows w name rows = filled_at (object_at w name) w name rows

-- an object whose rows that lie in the range are gone, with these after the rest; one that stores a query stays
abbrev pub written_body : List Column → List ℕ → ℤ → ℤ → List (List Cell) → Body → Body
written_body columns time start end rows (Rows old) = Rows (rewritten columns time start end rows old)
written_body columns time start end rows (Stored own targets) = Stored own targets

abbrev pub written_object : Object → List ℕ → ℤ → ℤ → List (List Cell) → Object
written_object o time start end rows = record o { body = written_body o.columns time start end rows o.body }

-- the same of the object of a world, and where there is none nothing happens
abbrev pub written_at : Option Object → World → List ℕ → ℤ → ℤ → List (List Cell) → World
written_at None w time start end rows = w
written_at (Some o) w time start end rows = record w { objects = exchanged name_cmp object_name (written_object o time start end rows) w.objects }

-- the rows of the table of that name that lie in the range go, and these come after the rest
abbrev pub write_range : World → Name → List ℕ → ℤ → ℤ → List (List Cell) → World
write_range w name time start end rows = written_at (object_at w name) w time start end rows

-- the view of that name points at this object
abbrev pub point_view : World → Name → Name → World
point_view w view target = record w { views = placed name_cmp view_name (record { view = view; target = target }) w.views }

-- the view of that name goes
abbrev pub drop_view : World → Name → World
drop_view w view = record w { views = without name_cmp view_name view w.views }

-- the object of that name goes
abbrev pub drop_object : World → Name → World
drop_object w name = record w { objects = without name_cmp object_name name w.objects }

-- what a change makes of a world
abbrev pub step : World → Change → World
step w (Moment t) = with_book w (raise_moment w.book t)
step w (Load name columns rows keep) = load w name columns rows keep
step w (PutSnapshot snapshot) = with_book w (put_snapshot w.book snapshot)
step w (MakeTable object columns) = make_table w object columns
step w (MakeView object columns own targets) = make_view w object columns own targets
step w (ReplaceRows object rows) = replace_rows w object rows
step w (WriteRange object time start end rows) = write_range w object time start end rows
step w (RecordRange object start end) = with_book w (record_range w.book object start end)
step w (RecordMarks object marks) = with_book w (record_marks w.book object marks)
step w (SetPending env list expires) = with_book w (set_pending w.book env list expires)
step w (PointView view target) = point_view w view target
step w (DropView view) = drop_view w view
step w (Finalize env) = with_book w (finalize w.book env)
step w (Expire env) = with_book w (expire w.book env)
step w (ForgetVersion object) = with_book w (forget_version w.book object)
step w (DropObject object) = drop_object w object
step w (DeleteSnapshot name fingerprint) = with_book w (delete_snapshot w.book (record { name = name; fingerprint = fingerprint }))
step w (DeleteEnv env) = with_book w (delete_env w.book env)
step w (ForgetUnits list) = with_book w (forget_units w.book list)
step w (Migrate renames) = with_book w (migrate w.book renames)

-- the steps of a list of changes, one after another
abbrev pub run : World → List Change → World
run w [] = w
run w (c ∷ cs) = run (step w c) cs
