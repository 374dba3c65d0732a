-- What is known of the table that was written last: no row's second by a column is at or after a second.
use Rattle.std.specs.Prelude.{ℕ, ℤ, Bool, true, false, List, Some, None, if◌then◌else◌}
use Rattle.std.specs.declared.option.Option.{Option}
use Rattle.mesh_base_values.specs.declared.values.Cell.{Cell}
use Rattle.mesh_base_values.specs.declared.values.Column.{Column}
use Rattle.mesh_time_days.specs.seconds.Rows.{are_before}
use Rattle.mesh_house.specs.declared.latest.Latest.{Latest}
use Rattle.mesh_house.specs.declared.objects.Body.{Body}
use Rattle.mesh_house.specs.declared.objects.Body.TheVariants.{Rows, Stored}
use Rattle.mesh_house.specs.declared.objects.Object.{Object}
use Rattle.mesh_house.specs.declared.world.Change.{Change}
use Rattle.mesh_house.specs.declared.world.Change.TheVariants.{Moment, Load, PutSnapshot, MakeTable, MakeView, ReplaceRows, WriteRange, RecordRange, RecordMarks, SetPending, PointView, DropView, Finalize, Expire, ForgetVersion, DropObject, DeleteSnapshot, DeleteEnv, ForgetUnits, Migrate}
use Rattle.mesh_house.specs.declared.world.World.{World}
use Rattle.mesh_house.specs.World.{object_at}

-- the rows of a table are before a second; a stored query has none
abbrev pub ends_body : List Column → List ℕ → ℤ → Body → Bool
ends_body columns time end (Rows rows) = are_before columns time end rows
ends_body columns time end (Stored own targets) = true

-- the same of an object, where there is one
abbrev pub ends_object : Option Object → List ℕ → ℤ → Bool
ends_object None time end = true
ends_object (Some o) time end = ends_body o.columns time end o.body

-- these rows are before a second by a column of an object, where there is one
abbrev pub ends_rows : Option Object → List ℕ → ℤ → List (List Cell) → Bool
ends_rows None time end rows = true
ends_rows (Some o) time end rows = are_before o.columns time end rows

-- what is known of a world, where something is
abbrev pub is_known : World → Option Latest → Bool
is_known w None = true
is_known w (Some l) = ends_object (object_at w l.object) l.time l.end

-- what is known is kept or forgotten
abbrev pub kept_if : Bool → Option Latest → Option Latest
kept_if kept l = if kept then l else None

-- whether a table ends at a second now: only rows that were added are looked at, where the others are known to
abbrev pub ends_now : Bool → Option Object → List ℕ → ℤ → List (List Cell) → Bool
ends_now others o time end rows = if others then ends_rows o time end rows else ends_object o time end

-- changes that leave all objects as they are, and come between the writes of a table
abbrev pub spares_objects : Change → Bool
spares_objects (Moment t) = true
spares_objects (Load name columns rows keep) = false
spares_objects (PutSnapshot snapshot) = false
spares_objects (MakeTable object columns) = false
spares_objects (MakeView object columns own targets) = false
spares_objects (ReplaceRows object rows) = false
spares_objects (WriteRange object time start end rows) = false
spares_objects (RecordRange object start end) = true
spares_objects (RecordMarks object marks) = true
spares_objects (SetPending env list expires) = false
spares_objects (PointView view target) = false
spares_objects (DropView view) = false
spares_objects (Finalize env) = false
spares_objects (Expire env) = false
spares_objects (ForgetVersion object) = false
spares_objects (DropObject object) = false
spares_objects (DeleteSnapshot name fingerprint) = false
spares_objects (DeleteEnv env) = false
spares_objects (ForgetUnits list) = false
spares_objects (Migrate renames) = false
