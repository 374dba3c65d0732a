-- Models whose tables are up to date: nothing of them is due, and no part of them may hold other rows. This is what is
-- known of a model once its changes are made, and what is asked of its parents before their tables are read.
use Rattle.std.specs.Prelude.{◌≡◌, true, false, List, Some, IsTrue, IsSome}
use Rattle.std.specs.List.{AllByRecursion, Contains}
use Rattle.mesh_base_values.specs.declared.times.Bounds.{Bounds}
use Rattle.mesh_base_values.specs.declared.kinds.Kind.{Kind}
use Rattle.mesh_base_values.specs.declared.kinds.Kind.TheVariants.{Full, View, Seed, Incremental}
use Rattle.mesh_base.specs.declared.snapshots.Ref.{Ref}
use Rattle.mesh_base.specs.declared.snapshots.Snapshot.{Snapshot}
use Rattle.mesh_house_book.specs.declared.book.Book.{Book}
use Rattle.mesh_house_book.specs.declared.versions.Version.{Version}
use Rattle.mesh_house_book.specs.WellFormed.{snapshot_at}
use Rattle.mesh_time.specs.Ranges.{is_held}
use Rattle.mesh_spec_model.specs.Closures.{Closure}
use Rattle.mesh_spec_model.specs.Horizons.{Clock, schedule}
use Rattle.mesh_house.specs.World.{version_of}
use Rattle.mesh_spec_changes.specs.listed.Closing.{closing, IsSnapshot}
use Rattle.mesh_spec_changes.specs.due.Marks.{marks}
use Rattle.mesh_spec_changes.specs.due.Parts.{Parts, unit_of}
use Rattle.mesh_base.specs.declared.forgets.Forget.TheVariants.{Marks}
use Rattle.mesh_spec_changes.specs.due.Plans.{Planned}
use Rattle.mesh_spec_changes.specs.due.Versions.{node_ref}

-- all that is to be recorded of a version is, and none of it is among the parts
abbrev pub IsRecorded : Clock → Parts → Snapshot → Closure → Version → Kind → Type 0
IsRecorded clock x s c v (Incremental time lookback) = (u : Bounds) → Contains (schedule clock c) u → IsTrue (is_held v.ranges u.start u.end) × (x (unit_of s.object u) ≡ false)
IsRecorded clock x s c v Full = (v.marks ≡ Some (marks clock c)) × (x (Marks s.object) ≡ false)
IsRecorded clock x s c v View = Unit {0}
IsRecorded clock x s c v Seed = IsSome v.marks

pub record IsCurrent (clock : Clock) (x : Parts) (b : Book) (s : Snapshot) : Type 0 where
  pub version : Version
  pub known : version_of b s.object ≡ Some version
  pub made : version.made ≡ true
  pub recorded : IsRecorded clock x s (closing b.snapshots s) version s.own.kind

-- a snapshot of the book, with all that it stands on, down to so many generations
pub data AllCurrent (clock : Clock) (x : Parts) (b : Book) : Snapshot → Type 0 where
  current : (s : Snapshot) → IsSnapshot b.snapshots s → IsCurrent clock x b s → ((r : Ref) → Contains s.parents r → (p : Snapshot) → snapshot_at b.snapshots r ≡ Some p → AllCurrent clock x b p) → AllCurrent clock x b s

-- The changes of these models are made: each is a snapshot of the book, under its object and with its closure, and is
-- up to date.
pub record IsDone (clock : Clock) (x : Parts) (b : Book) (p : Planned) : Type 0 where
  pub snapshot : Snapshot
  pub known : snapshot_at b.snapshots (node_ref p.node) ≡ Some snapshot
  pub own : snapshot.own ≡ p.node.own
  pub object : snapshot.object ≡ p.object
  pub closure : closing b.snapshots snapshot ≡ p.closure
  pub current : IsCurrent clock x b snapshot

-- each of these models is done
abbrev pub AreDone : Clock → Parts → Book → List Planned → Type 0
AreDone clock x b done = AllByRecursion (IsDone clock x b) done

-- so are all that it stands on
pub record IsReadable (clock : Clock) (x : Parts) (b : Book) (p : Planned) : Type 0 where
  pub done : IsDone clock x b p
  pub all : AllCurrent clock x b done.snapshot
