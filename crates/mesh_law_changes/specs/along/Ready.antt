-- A plan on its way: its models in the book, what of them is recorded once it is opened, and when all of them are done.
use Rattle.std.specs.Prelude.{◌≡◌, true, false, not, List, [], ◌∷◌, ◌++◌, map, Some}
use Rattle.std.specs.List.{AllByRecursion, Contains}
use Rattle.std.specs.Option.{is_some}
use Rattle.std.specs.declared.option.Option.{Option}
use Rattle.std.specs.declared.option.Option.TheVariants.{None}
use Rattle.mesh_base_values.specs.declared.kinds.Kind.{Kind}
use Rattle.mesh_base_values.specs.declared.kinds.Kind.TheVariants.{Full, View, Seed, Incremental}
use Rattle.mesh_base_values.specs.declared.times.Bounds.{Bounds}
use Rattle.mesh_base_values.specs.declared.values.Name.{Name}
use Rattle.mesh_base.specs.declared.forgets.Forget.{Forget}
use Rattle.mesh_base.specs.declared.snapshots.Snapshot.{Snapshot}
use Rattle.mesh_time.specs.Ranges.{is_held}
use Rattle.mesh_house_book.specs.declared.book.Book.{Book}
use Rattle.mesh_house_book.specs.Changes.{new_version}
use Rattle.mesh_house_book.specs.declared.versions.Version.{Version}
use Rattle.mesh_house_book.specs.WellFormed.{snapshot_at}
use Rattle.mesh_spec_model.specs.Horizons.{Clock, Shows, schedule}
use Rattle.mesh_house.specs.declared.world.World.{World}
use Rattle.mesh_house.specs.World.{version_of}
use Rattle.mesh_spec_changes.specs.listed.Closing.{closing}
use Rattle.mesh_spec_changes.specs.due.Dues.{due, is_due_unit}
use Rattle.mesh_spec_changes.specs.due.Marks.{marks}
use Rattle.mesh_spec_changes.specs.due.Parts.{Parts, is_among, object_of}
use Rattle.mesh_spec_changes.specs.due.Plans.{Planned, is_made}
use Rattle.mesh_spec_changes.specs.Changes.{is_any, parents_in, planned_ref}
use Rattle.mesh_spec_promise.specs.Current.{AreDone}
use Rattle.mesh_spec_promise.specs.Sound.{Sound}

-- A planned model is a snapshot of the book: with its definition, its parents, its rank, its object and its closure.
pub record IsPlaced (all : List Planned) (snapshots : List Snapshot) (p : Planned) : Type 0 where
  pub snapshot : Snapshot
  pub known : snapshot_at snapshots (planned_ref p) ≡ Some snapshot
  pub own : snapshot.own ≡ p.node.own
  pub parents : snapshot.parents ≡ map planned_ref (parents_in all p)
  pub rank : snapshot.rank ≡ p.node.rank
  pub object : snapshot.object ≡ p.object
  pub closure : closing snapshots snapshot ≡ p.closure

-- the version of an object once a snapshot that uses it is put
abbrev pub put_version : Option Version → Name → Version
put_version None object = new_version object
put_version (Some v) object = v

-- The models of a plan stand in the book of a world, where nothing of them is forgotten yet: versions and
-- environments are those of the book before.
pub record ArePut (b : Book) (all : List Planned) (w : World) : Type 0 where
  pub placed : AllByRecursion (IsPlaced all w.book.snapshots) all
  pub versions : (p : Planned) → Contains all p → version_of w.book p.object ≡ Some (put_version (version_of b p.object) p.object)
  pub environments : w.book.environments ≡ b.environments

-- a version holds just the units that aren't due, has a table's marks where that isn't due, and any marks of another
-- kind where that isn't due
abbrev pub HasTheRest : Clock → Book → List Forget → Version → Planned → Kind → Type 0
HasTheRest clock b forgets v p (Incremental time lookback) = (u : Bounds) → Contains (schedule clock p.closure) u → is_held v.ranges u.start u.end ≡ not (is_due_unit b forgets p u)
HasTheRest clock b forgets v p Full =
    (is_any (due clock b forgets p) ≡ false → v.marks ≡ Some (marks clock p.closure)) × (is_any (due clock b forgets p) ≡ true → ¬ (v.marks ≡ Some (marks clock p.closure)))
HasTheRest clock b forgets v p View = is_some v.marks ≡ not (is_any (due clock b forgets p))
HasTheRest clock b forgets v p Seed = is_some v.marks ≡ not (is_any (due clock b forgets p))

-- what is recorded of a planned model's object, once the plan is opened, is all but what is due by the book before
pub record IsOpened (clock : Clock) (b : Book) (forgets : List Forget) (opened : Book) (p : Planned) : Type 0 where
  pub version : Version
  pub known : version_of opened p.object ≡ Some version
  pub made : version.made ≡ is_made (version_of b p.object)
  pub rest : HasTheRest clock b forgets version p p.node.own.kind

-- each of some models stands behind all of its parents, where some stand before them all
abbrev pub AreRanked : List Planned → List Planned → List Planned → Type 0
AreRanked all before [] = Unit {0}
AreRanked all before (p ∷ ps) = ((q : Planned) → Contains (parents_in all p) q → Contains before q) × AreRanked all (before ++ p ∷ []) ps

-- no two of some models have one object
abbrev pub AreApart : List Planned → Type 0
AreApart [] = Unit {0}
AreApart (p ∷ ps) = AllByRecursion (λ (q : Planned). ¬ (p.object ≡ q.object)) ps × AreApart ps

-- Once a plan is opened, its models can be made and filled one after another: what isn't due of them isn't in doubt.
pub record IsReady (clock : Clock) (b : Book) (forgets : List Forget) (all : List Planned) (x : Parts) (w : World) : Type 0 where
  pub sound : Sound x w
  pub moment : Shows clock w.book.moment
  pub placed : AllByRecursion (IsPlaced all w.book.snapshots) all
  pub opened : AllByRecursion (IsOpened clock b forgets w.book) all
  pub apart : AreApart all
  pub ranked : AreRanked all [] all
  pub covered : (p : Planned) → Contains all p → (q : Forget) → object_of q ≡ p.object → is_among (due clock b forgets p) q ≡ false → x q ≡ false

-- The models of a plan are made and filled: the book has the snapshots and the environments that it had.
pub record IsFilled (clock : Clock) (all : List Planned) (before : Book) (x : Parts) (w : World) : Type 0 where
  pub sound : Sound x w
  pub moment : w.book.moment ≡ before.moment
  pub snapshots : w.book.snapshots ≡ before.snapshots
  pub environments : w.book.environments ≡ before.environments
  pub done : AreDone clock x w.book all
