-- The book's part in the changes of a world.
use Rattle.std.specs.Prelude.{Result, Ok, Err}
use Rattle.std.specs.declared.option.Option.{Option}
use Rattle.mesh_house_book.specs.declared.book.Book.{Book}
use Rattle.mesh_house_book.specs.declared.versions.Version.{Version}
use Rattle.mesh_house_book.specs.Changes.{raise_moment, put_snapshot, record_range, record_marks, set_pending, finalize, expire, forget_version, delete_snapshot, delete_env, at_version}
use Rattle.mesh_house_book.specs.moves.Forgets.{forget_units}
use Rattle.mesh_house_book.specs.moves.Renames.{migrate}
use Rattle.mesh_house.specs.declared.world.World.{World}
use Rattle.mesh_house.specs.declared.world.Change.{Change}
use Rattle.mesh_house.specs.declared.world.Change.TheVariants.{Moment, Load, PutSnapshot, MakeTable, MakeView, ReplaceRows, WriteRange, RecordRange, RecordMarks, SetPending, PointView, DropView, Finalize, Expire, ForgetVersion, DropObject, DeleteSnapshot, DeleteEnv, ForgetUnits, Migrate}
use Rattle.mesh_house.specs.Step.{with_book}

-- what a change of the book alone makes of it; changes of tables and views are no such changes
abbrev pub booked : Book → Change → Book
booked b (Moment t) = raise_moment b t
booked b (Load name columns rows keep) = b
booked b (PutSnapshot snapshot) = put_snapshot b snapshot
booked b (MakeTable object columns) = b
booked b (MakeView object columns own targets) = b
booked b (ReplaceRows object rows) = b
booked b (WriteRange object time start end rows) = b
booked b (RecordRange object start end) = record_range b object start end
booked b (RecordMarks object marks) = record_marks b object marks
booked b (SetPending env list expires) = set_pending b env list expires
booked b (PointView view target) = b
booked b (DropView view) = b
booked b (Finalize env) = finalize b env
booked b (Expire env) = expire b env
booked b (ForgetVersion object) = forget_version b object
booked b (DropObject object) = b
booked b (DeleteSnapshot name fingerprint) = delete_snapshot b (record { name = name; fingerprint = fingerprint })
booked b (DeleteEnv env) = delete_env b env
booked b (ForgetUnits list) = forget_units b list
booked b (Migrate renames) = migrate b renames

-- the world with a version as it was before, where the book was changed
abbrev pub put_back : {T E : Type 0} → Result T E → Option Version → World → World
put_back (Ok x) before w = with_book w (at_version before (λ v. v) w.book)
put_back (Err e) before w = w
