-- What a book is where snapshots get other fingerprints.
use Rattle.std.specs.Prelude.{ℕ, Bool, List, [], ◌∷◌, Some, None, map, nat_lt, if◌then◌else◌}
use Rattle.std.specs.declared.option.Option.{Option}
use Rattle.std.specs.List.{count_by, list_any}
use Rattle.std.specs.Ordering.{is_eq}
use Rattle.mesh_list.specs.Keyed.{found, placed}
use Rattle.mesh_base.specs.declared.forgets.Rename.{Rename}
use Rattle.mesh_base.specs.declared.snapshots.Env.{Env}
use Rattle.mesh_base.specs.declared.snapshots.Ref.{Ref}
use Rattle.mesh_base.specs.declared.snapshots.Snapshot.{Snapshot}
use Rattle.mesh_base.specs.Keys.{ref_cmp, snapshot_ref}
use Rattle.mesh_house_book.specs.declared.book.Book.{Book}

-- renames are found by the references that they name
abbrev pub rename_old : Rename → Ref
rename_old r = r.old

-- a reference with the fingerprint that a rename gives, or its own
abbrev pub renamed_by : Option Rename → Ref → Ref
renamed_by None r = r
renamed_by (Some m) r = record r { fingerprint = m.new }

-- a reference with its new fingerprint, by the first rename of the map that names it
abbrev pub renamed : List Rename → Ref → Ref
renamed renames r = renamed_by (found ref_cmp rename_old r renames) r

-- a snapshot with its new fingerprint and those of its parents
abbrev pub renamed_snapshot : List Rename → Snapshot → Snapshot
renamed_snapshot renames s = record s {
  fingerprint = (renamed renames (snapshot_ref s)).fingerprint;
  parents = map (renamed renames) s.parents;
}

-- an environment with the new fingerprints of both its lists
abbrev pub renamed_env : List Rename → Env → Env
renamed_env renames e = record e {
  list = map (renamed renames) e.list;
  previous = map (renamed renames) e.previous;
}

-- how many snapshots have this name and fingerprint
abbrev pub times : Ref → List Snapshot → ℕ
times r snapshots = count_by (λ s. is_eq (ref_cmp r (snapshot_ref s))) snapshots

-- two of the snapshots have one name and one fingerprint
abbrev pub has_twins : List Snapshot → Bool
has_twins snapshots = list_any (λ s. nat_lt 1 (times (snapshot_ref s) snapshots)) snapshots

-- the snapshots in order of their names and fingerprints
abbrev pub in_order : List Snapshot → List Snapshot
in_order [] = []
in_order (s ∷ ss) = placed ref_cmp snapshot_ref s (in_order ss)

-- the snapshots with their new fingerprints
abbrev pub renamed_all : List Rename → List Snapshot → List Snapshot
renamed_all renames snapshots = map (renamed_snapshot renames) snapshots

-- each snapshot that the map names gets its new fingerprint, in parents and lists too; a map that would give two
-- snapshots of one name one fingerprint changes nothing
abbrev pub migrate : Book → List Rename → Book
migrate b renames =
    if has_twins (renamed_all renames b.snapshots) then b
    else record b {
      version = 2;
      snapshots = in_order (renamed_all renames b.snapshots);
      environments = map (renamed_env renames) b.environments;
    }
