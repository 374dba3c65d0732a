-- What each kind of change makes of a book. All that a change doesn't speak of is as before, and where the book lacks
-- the version or the environment that it needs, so is the book.
use Rattle.std.specs.Prelude.{ℕ, ℤ, pos, true, false, List, [], ◌∷◌, Some, None, if◌then◌else◌}
use Rattle.std.specs.declared.option.Option.{Option}
use Rattle.std.specs.declared.cmp.Ordering.{Ordering}
use Rattle.std.specs.Int.{int_max}
use Rattle.std.specs.Int.Signed.{lt_z}
use Rattle.mesh_list.specs.Keyed.{found, placed, without, exchanged}
use Rattle.mesh_base_values.specs.declared.values.Name.{Name}
use Rattle.mesh_base.specs.declared.snapshots.Ref.{Ref}
use Rattle.mesh_base.specs.declared.snapshots.Snapshot.{Snapshot}
use Rattle.mesh_base.specs.declared.snapshots.Env.{Env}
use Rattle.mesh_base_values.specs.Names.{text_cmp, name_cmp}
use Rattle.mesh_time.specs.Edits.{spans_with}
use Rattle.mesh_base.specs.Keys.{ref_cmp, ref_itself, snapshot_ref, env_name}
use Rattle.mesh_house_book.specs.declared.versions.Version.{Version}
use Rattle.mesh_house_book.specs.declared.book.Book.{Book}

-- the empty book
abbrev pub empty_book : Book
empty_book = record { version = 2; moment = pos 0; snapshots = []; versions = []; environments = [] }

-- an item instead of the one that has its key, or added at its place where there is none
abbrev pub put_for : {A K : Type 0} → Option A → (K → K → Ordering) → (A → K) → A → List A → List A
put_for None R key y xs = placed R key y xs
put_for (Some old) R key y xs = exchanged R key y xs

abbrev pub put : {A K : Type 0} → (K → K → Ordering) → (A → K) → A → List A → List A
put R key y xs = put_for (found R key (key y) xs) R key y xs

-- versions are found by their objects
abbrev pub version_object : Version → Name
version_object v = v.object

-- a version that isn't made
abbrev pub new_version : Name → Version
new_version object = record { object = object; made = false; ranges = []; marks = None }

-- the moment is raised to this one, and never goes back
abbrev pub raise_moment : Book → ℤ → Book
raise_moment b t = record b { moment = int_max b.moment t }

-- the versions with one more, which isn't made, where there was none of that object
abbrev pub with_version : Option Version → Name → List Version → List Version
with_version None object versions = placed name_cmp version_object (new_version object) versions
with_version (Some v) object versions = versions

-- the snapshot takes the place of the one with its name and fingerprint, or joins the others; its object has a version
abbrev pub put_snapshot : Book → Snapshot → Book
put_snapshot b s = record b {
  snapshots = put ref_cmp snapshot_ref s b.snapshots;
  versions = with_version (found name_cmp version_object s.object b.versions) s.object b.versions;
}

-- a version changes, where there is one of that object
abbrev pub at_version : Option Version → (Version → Version) → Book → Book
at_version None f b = b
at_version (Some v) f b = record b { versions = exchanged name_cmp version_object (f v) b.versions }

-- the version is made, and has no ranges and no marks
abbrev pub as_table : Version → Version
as_table v = record v { made = true; ranges = []; marks = None }

abbrev pub make_table : Book → Name → Book
make_table b object = at_version (found name_cmp version_object object b.versions) as_table b

-- the version is made, without marks
abbrev pub as_view : Version → Version
as_view v = record v { made = true; marks = None }

abbrev pub make_view : Book → Name → Book
make_view b object = at_version (found name_cmp version_object object b.versions) as_view b

-- the version's ranges gain the seconds from a start to an end
abbrev pub with_range : ℤ → ℤ → Version → Version
with_range start end v = record v { ranges = spans_with start end v.ranges }

-- nothing is recorded where the start isn't below the end
abbrev pub record_range : Book → Name → ℤ → ℤ → Book
record_range b object start end =
    if lt_z start end then at_version (found name_cmp version_object object b.versions) (with_range start end) b else b

-- the version's marks are these
abbrev pub with_marks : List ℤ → Version → Version
with_marks marks v = record v { marks = Some marks }

abbrev pub record_marks : Book → Name → List ℤ → Book
record_marks b object marks = at_version (found name_cmp version_object object b.versions) (with_marks marks) b

-- these references and more, each once, by name and fingerprint
abbrev pub with_refs : List Ref → List Ref → List Ref
with_refs all [] = all
with_refs all (r ∷ rs) = with_refs (placed ref_cmp ref_itself r all) rs

-- the references of two lists, each once, by name and fingerprint
abbrev pub joined : List Ref → List Ref → List Ref
joined list previous = with_refs (with_refs [] list) previous

-- what an environment leaves behind where it gets a new list: its old list, and while it was pending also its old
-- previous list
abbrev pub previous_of : Option Env → List Ref
previous_of None = []
previous_of (Some e) = if e.pending then joined e.list e.previous else e.list

-- the environment is pending, with this list and this expiry; one that wasn't there is added
abbrev pub set_pending : Book → List ℕ → List Ref → Option ℤ → Book
set_pending b name list expires = record b {
  environments = put text_cmp env_name (record {
    name = name;
    pending = true;
    list = list;
    previous = previous_of (found text_cmp env_name name b.environments);
    expires = expires;
  }) b.environments;
}

-- an environment changes, where there is one of that name
abbrev pub at_env : Option Env → (Env → Env) → Book → Book
at_env None f b = b
at_env (Some e) f b = record b { environments = exchanged text_cmp env_name (f e) b.environments }

-- the environment isn't pending, and its previous list is empty
abbrev pub as_final : Env → Env
as_final e = record e { pending = false; previous = [] }

abbrev pub finalize : Book → List ℕ → Book
finalize b name = at_env (found text_cmp env_name name b.environments) as_final b

-- the environment's expiry is 0
abbrev pub as_expired : Env → Env
as_expired e = record e { expires = Some (pos 0) }

abbrev pub expire : Book → List ℕ → Book
expire b name = at_env (found text_cmp env_name name b.environments) as_expired b

-- the version goes
abbrev pub forget_version : Book → Name → Book
forget_version b object = record b { versions = without name_cmp version_object object b.versions }

-- the snapshot goes
abbrev pub delete_snapshot : Book → Ref → Book
delete_snapshot b r = record b { snapshots = without ref_cmp snapshot_ref r b.snapshots }

-- the environment goes
abbrev pub delete_env : Book → List ℕ → Book
delete_env b name = record b { environments = without text_cmp env_name name b.environments }
