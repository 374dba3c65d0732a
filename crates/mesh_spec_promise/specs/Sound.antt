-- Worlds that are kept well: what is recorded of a table is so of its rows.
use Rattle.std.specs.Prelude.{◌≡◌, ◌⊎◌, ◌≤ℤ◌, ℤ, true, false, List, [], map, Some, None, IsTrue, IsSome}
use Rattle.std.specs.List.{All, AllZip, Contains, filter, flat_map, list_any}
use Rattle.std.specs.Option.{option_to_list, ForSome}
use Rattle.std.specs.declared.option.Option.{Option}
use Rattle.mesh_list.specs.Keyed.{ascends}
use Rattle.mesh_base_values.specs.Bag.{IsSameBag}
use Rattle.mesh_base_values.specs.Crons.{is_cron}
use Rattle.mesh_base.specs.declared.jobs.Input.{Input}
use Rattle.mesh_base.specs.Keys.{input_name, snapshot_ref}
use Rattle.mesh_base_values.specs.Names.{name_cmp}
use Rattle.mesh_base.specs.Outputs.{columns_of}
use Rattle.mesh_base_values.specs.declared.times.Bounds.{Bounds}
use Rattle.mesh_base_values.specs.declared.values.Cell.{Cell}
use Rattle.mesh_base_values.specs.declared.values.Name.{Name}
use Rattle.mesh_base_values.specs.declared.values.Pair.{Pair}
use Rattle.mesh_base_values.specs.declared.kinds.Kind.{Kind}
use Rattle.mesh_base_values.specs.declared.kinds.Kind.TheVariants.{Full, View, Seed, Incremental}
use Rattle.mesh_base.specs.declared.definitions.Own.{Own}
use Rattle.mesh_base.specs.declared.snapshots.Ref.{Ref}
use Rattle.mesh_base.specs.declared.snapshots.Snapshot.{Snapshot}
use Rattle.mesh_base.specs.declared.snapshots.Env.{Env}
use Rattle.mesh_time.specs.Ranges.{Has, IsWithin, is_apart, is_held}
use Rattle.mesh_house_book.specs.declared.book.Book.{Book}
use Rattle.mesh_house_book.specs.declared.versions.Version.{Version}
use Rattle.mesh_house_book.specs.WellFormed.{snapshot_at, have_parents, is_well_formed_book}
use Rattle.mesh_spec_model.specs.Closures.{Closure, own_of, standing}
use Rattle.mesh_spec_model.specs.Horizons.{Clock, Shows, schedule}
use Rattle.mesh_spec_model.specs.Scratch.{from_scratch, no_bounds, defn_rows, is_of_unit, piece}
use Rattle.mesh_house.specs.declared.objects.Body.{Body}
use Rattle.mesh_house.specs.declared.objects.Body.TheVariants.{Rows, Stored}
use Rattle.mesh_house.specs.declared.objects.Object.{Object}
use Rattle.mesh_house.specs.declared.world.World.{World}
use Rattle.mesh_house.specs.Objects.{object_name, are_physical}
use Rattle.mesh_house.specs.Sources.{are_plain}
use Rattle.mesh_house.specs.World.{view_name, version_of, object_at, body_of, rows_of, view}
use Rattle.mesh_spec_changes.specs.due.Parts.{Parts, all_parts, unit_of}
use Rattle.mesh_base.specs.declared.forgets.Forget.TheVariants.{Marks}
use Rattle.mesh_spec_changes.specs.listed.Closing.{closing, IsSnapshot}
use Rattle.mesh_spec_changes.specs.reuse.Cores.{IsTwin}
use Rattle.mesh_spec_changes.specs.Environments.{IsEnv, view_in}
use Rattle.mesh_spec_changes.specs.due.Marks.{marks}

-- the rules that the types of a world, a version and a cron keep by themselves
pub record IsTyped (w : World) : Type 0 where
  pub sources : IsTrue (ascends name_cmp input_name w.sources)
  pub plain : IsTrue (are_plain w.sources)
  pub objects : IsTrue (ascends name_cmp object_name w.objects)
  pub physical : IsTrue (are_physical w.objects)
  pub views : IsTrue (ascends name_cmp view_name w.views)
  pub ranges : (name : Name) (v : Version) → version_of w.book name ≡ Some v → IsTrue (is_apart v.ranges)
  pub crons : (s : Snapshot) → IsSnapshot w.book.snapshots s → IsTrue (is_cron s.own.cron)

-- a snapshot of the book has its rows in this object
pub record Uses (b : Book) (object : Name) : Type 0 where
  pub snapshot : Snapshot
  pub kept : IsSnapshot b.snapshots snapshot
  pub uses : snapshot.object ≡ object

-- among a closure and all that it stands on, no two have one name
abbrev pub HasEachOnce : Closure → Type 0
HasEachOnce c = (a b : Closure) → Contains (standing c) a → Contains (standing c) b → (own_of a).name ≡ (own_of b).name → a ≡ b

-- the book by itself
pub record IsBookSound (b : Book) : Type 0 where
  pub well_formed : IsTrue (is_well_formed_book b)
  -- a snapshot and all that it stands on have distinct names
  pub names : (s : Snapshot) → IsSnapshot b.snapshots s → HasEachOnce (closing b.snapshots s)
  -- a version is that of a snapshot
  pub versions : (name : Name) (v : Version) → version_of b name ≡ Some v → Uses b name
  -- nothing is recorded of what isn't made
  pub ranges : (name : Name) (v : Version) → version_of b name ≡ Some v → v.made ≡ false → v.ranges ≡ []
  pub marks : (name : Name) (v : Version) → version_of b name ≡ Some v → v.made ≡ false → v.marks ≡ None
  -- snapshots that share a table are of one model and need the same of its ancestors
  pub shared : (s s' : Snapshot) → IsSnapshot b.snapshots s → IsSnapshot b.snapshots s' → s.object ≡ s'.object → (s.name ≡ s'.name) × IsTwin (closing b.snapshots s) (closing b.snapshots s')
  -- a view shares its object with no other
  pub alone : (s s' : Snapshot) → IsSnapshot b.snapshots s → IsSnapshot b.snapshots s' → s.object ≡ s'.object → s.own.kind ≡ View → snapshot_ref s ≡ snapshot_ref s'

-- a row lies in one of the units
abbrev pub lies_among : Own → List Bounds → List Cell → Type 0
lies_among own units row = IsTrue (list_any (λ u. is_of_unit own u row) units)

-- each second that is recorded lies in a recorded unit
abbrev pub AreUnits : List Bounds → List Bounds → Type 0
AreUnits units ranges = (t : ℤ) → Has ranges t → (u : Bounds) × Contains units u × IsTrue (is_held ranges u.start u.end) × IsWithin u.start u.end t

-- the rows of a table
abbrev pub table_rows : World → Name → Option (List (List Cell))
table_rows w name = rows_of (body_of (object_at w name))

-- An incremental table with these rows: what is recorded are units of the schedule, all rows lie in the schedule, and
-- those of a recorded unit are what they are from scratch, but perhaps for some parts.
pub record IsIncrementalSound (clock : Clock) (x : Parts) (sources : List Input) (table : Option (List (List Cell))) (object : Name) (c : Closure) (own : Own) (v : Version) : Type 0 where
  pub units : AreUnits (schedule clock c) v.ranges
  pub within : v.made ≡ true → ForSome table (λ rows. All (lies_among own (schedule clock c)) rows)
  pub pieces : v.made ≡ true → (u : Bounds) → Contains (schedule clock c) u → IsTrue (is_held v.ranges u.start u.end) → x (unit_of object u) ≡ false →
      ForSome table (λ rows. IsSameBag (filter (is_of_unit own u) rows) (piece sources clock c u))

-- A FULL table with these rows: its marks are no later than those of its model, and where they are equal its rows are
-- those from scratch, but perhaps for some parts.
pub record IsFullSound (clock : Clock) (x : Parts) (sources : List Input) (table : Option (List (List Cell))) (object : Name) (c : Closure) (v : Version) : Type 0 where
  pub no_later : ForSome v.marks (λ old. AllZip (λ m n. m ≤ℤ n) old (marks clock c))
  pub rows : v.marks ≡ Some (marks clock c) → x (Marks object) ≡ false → ForSome table (λ rows. IsSameBag rows (from_scratch sources clock c))

-- a seed's table with these rows: with marks it has the rows of its file
abbrev pub IsSeedSound : Option (List (List Cell)) → Own → Version → Type 0
IsSeedSound table own v = IsSome v.marks → ForSome table (λ rows. IsSameBag rows (defn_rows own.defn [] no_bounds))

-- what is recorded of a table is so of its rows, by the kind
abbrev pub IsTableSound : Clock → Parts → World → Snapshot → Version → Kind → Type 0
IsTableSound clock x w s v (Incremental time lookback) = IsIncrementalSound clock x w.sources (table_rows w s.object) s.object (closing w.book.snapshots s) s.own v
IsTableSound clock x w s v Full = IsFullSound clock x w.sources (table_rows w s.object) s.object (closing w.book.snapshots s) v
IsTableSound clock x w s v Seed = IsSeedSound (table_rows w s.object) s.own v
IsTableSound clock x w s v View = Unit {0}

-- each table of the book is sound
abbrev pub AreTablesSound : Parts → World → Type 0
AreTablesSound x w =
    (clock : Clock) → Shows clock w.book.moment → (s : Snapshot) → IsSnapshot w.book.snapshots s → (v : Version) → version_of w.book s.object ≡ Some v → IsTableSound clock x w s v s.own.kind

-- each parent of a snapshot with the object that has its rows
abbrev pub object_named : List Snapshot → Ref → List Pair
object_named all r = map (λ (s : Snapshot). record { first = r.name; second = s.object }) (option_to_list (snapshot_at all r))

-- the objects of these snapshots, each by its model
abbrev pub parent_objects : List Snapshot → List Ref → List Pair
parent_objects all refs = flat_map (object_named all) refs

-- what stands behind a snapshot: the stored query of a view over its parents' objects, and a table of any other
abbrev pub IsBodyOf : List Snapshot → Snapshot → Kind → Body → Type 0
IsBodyOf all s View (Stored own targets) = (own ≡ s.own) × (targets ≡ parent_objects all s.parents)
IsBodyOf all s View (Rows rows) = ⊥
IsBodyOf all s other (Rows rows) = Unit {0}
IsBodyOf all s other (Stored own targets) = ⊥

-- what is made of a snapshot stands, with its model's columns; of a view so do its targets
pub record IsMade (w : World) (s : Snapshot) : Type 0 where
  pub object : Object
  pub stands : object_at w s.object ≡ Some object
  pub columns : object.columns ≡ columns_of s.own
  pub targets : s.own.kind ≡ View → All (λ (t : Pair). IsSome (object_at w t.second)) (parent_objects w.book.snapshots s.parents)

pub record AreObjectsSound (w : World) : Type 0 where
  pub named : (name : Name) (o : Object) → object_at w name ≡ Some o → Uses w.book name
  pub bodies : (s : Snapshot) → IsSnapshot w.book.snapshots s → ForSome (object_at w s.object) (λ o. IsBodyOf w.book.snapshots s s.own.kind o.body)
  pub made : (s : Snapshot) → IsSnapshot w.book.snapshots s → (v : Version) → version_of w.book s.object ≡ Some v → v.made ≡ true → IsMade w s

-- an environment has this model in its list, or still in its previous one
abbrev pub IsEntry : Env → Ref → Type 0
IsEntry e r = Contains e.list r ⊎ Contains e.previous r

-- a view is that of an entry of an environment, and points at the entry's object
pub record IsViewOf (w : World) (name target : Name) : Type 0 where
  pub env : Env
  pub known : IsEnv w.book env
  pub entry : Ref
  pub of : IsEntry env entry
  pub snapshot : Snapshot
  pub is : snapshot_at w.book.snapshots entry ≡ Some snapshot
  pub view : name ≡ view_in env.name entry.name
  pub object : target ≡ snapshot.object

-- the table or view of a snapshot is made
abbrev pub IsObjectMade : Book → Snapshot → Type 0
IsObjectMade b s = (v : Version) × (version_of b s.object ≡ Some v) × (v.made ≡ true)

pub record AreViewsSound (w : World) : Type 0 where
  pub views : (name target : Name) → view w name ≡ Some target → IsViewOf w name target
  pub entries : (e : Env) → IsEnv w.book e → (r : Ref) → IsEntry e r → ForSome (snapshot_at w.book.snapshots r) (IsObjectMade w.book)
  pub parents : (e : Env) → IsEnv w.book e → IsTrue (have_parents w.book.snapshots e.previous e.previous)
  -- a finalized environment has the view of each entry
  pub previous : (e : Env) → IsEnv w.book e → e.pending ≡ false → e.previous ≡ []
  pub final : (e : Env) → IsEnv w.book e → e.pending ≡ false → (r : Ref) → Contains e.list r → ForSome (snapshot_at w.book.snapshots r) (λ s. view w (view_in e.name r.name) ≡ Some s.object)

-- a world that is kept well, but perhaps for the rows of some parts
pub record Sound (x : Parts) (w : World) : Type 0 where
  pub typed : IsTyped w
  pub book : IsBookSound w.book
  pub tables : AreTablesSound x w
  pub objects : AreObjectsSound w
  pub views : AreViewsSound w

-- whatever the rows of recorded parts are
abbrev pub Formed : World → Type 0
Formed w = Sound all_parts w
