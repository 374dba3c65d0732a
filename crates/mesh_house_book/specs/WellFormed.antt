-- When a book is well formed, and where it first isn't.
use Rattle.std.specs.Prelude.{ℕ, ◌+◌, ℤ, pos, Bool, true, ◌&&◌, ◌||◌, not, nat_eq, nat_le, List, [], ◌∷◌, length, map, Some, None, if◌then◌else◌}
use Rattle.std.specs.declared.option.Option.{Option}
use Rattle.std.specs.declared.cmp.Ordering.{Ordering}
use Rattle.std.specs.List.{list_all}
use Rattle.std.specs.Option.{is_some}
use Rattle.std.specs.Int.Signed.{le_z}
use Rattle.std.specs.Ordering.{is_eq, is_lt}
use Rattle.mesh_list.specs.Keyed.{found, ascends}
use Rattle.mesh_base_values.specs.declared.kinds.Kind.{Kind}
use Rattle.mesh_base_values.specs.declared.values.Column.{Column}
use Rattle.mesh_base.specs.declared.queries.FromItem.{FromItem}
use Rattle.mesh_base.specs.declared.queries.Select.{Select}
use Rattle.mesh_base.specs.declared.snapshots.Ref.{Ref}
use Rattle.mesh_base.specs.declared.snapshots.Snapshot.{Snapshot}
use Rattle.mesh_base.specs.declared.snapshots.Env.{Env}
use Rattle.mesh_base_values.specs.Kinds.{lookback_of}
use Rattle.mesh_base_values.specs.Names.{text_cmp, name_cmp, has_two_underscores}
use Rattle.mesh_base.specs.Outputs.{columns_of}
use Rattle.mesh_base.specs.rules.Seen.{tables_of}
use Rattle.mesh_base.specs.declared.rules.relations.Relation.{Relation}
use Rattle.mesh_base.specs.declared.rules.relations.Parent.{Parent}
use Rattle.mesh_base.specs.rules.Relations.{read_relations}
use Rattle.mesh_base.specs.rules.Proper.{stands_on}
use Rattle.mesh_base.specs.Keys.{ref_cmp, ref_itself, ref_name, snapshot_ref, env_name}
use Rattle.mesh_house_book.specs.Changes.{version_object}
use Rattle.mesh_house_book.specs.declared.versions.Version.{Version}
use Rattle.mesh_house_book.specs.declared.book.Book.{Book}
use Rattle.mesh_house_book.specs.declared.fault.BookFault.{BookFault}

-- the numbers that the version of a book's fingerprints may have
abbrev pub is_version : ℕ → Bool
is_version version = nat_eq version 1 || nat_eq version 2

-- in a book of version 1, whose fingerprints know of no lookback, nothing looks back
abbrev pub suits : ℕ → Kind → Bool
suits version kind = not (nat_eq version 1) || nat_eq (lookback_of kind) 0

-- a moment from 1970-01-01T00:00:00 to 9999-12-31T23:59:59
abbrev pub is_moment : ℤ → Bool
is_moment t = le_z (pos 0) t && le_z t (pos 253402300799)

-- an item's key is above that of the item before it, where there is one
abbrev pub is_above : {A K : Type 0} → (K → K → Ordering) → (A → K) → Option A → A → Bool
is_above R key None x = true
is_above R key (Some before) x = is_lt (R (key before) (key x))

-- the snapshot that a reference names
abbrev pub snapshot_at : List Snapshot → Ref → Option Snapshot
snapshot_at all r = found ref_cmp snapshot_ref r all

-- a reference names a snapshot of the book
abbrev pub is_kept : List Snapshot → Ref → Bool
is_kept all r = is_some (snapshot_at all r)

abbrev pub are_kept : List Snapshot → List Ref → Bool
are_kept all refs = list_all (is_kept all) refs

-- the output columns of a snapshot
abbrev pub columns_at : Option Snapshot → List Column
columns_at None = []
columns_at (Some s) = columns_of s.own

-- the rank of a snapshot
abbrev pub rank_at : Option Snapshot → ℕ
rank_at None = 0
rank_at (Some s) = s.rank

-- the snapshot that a reference names, as another one stands on it
abbrev pub parent : List Snapshot → Ref → Parent
parent all r = record { rank = rank_at (snapshot_at all r); name = r.name; columns = columns_at (snapshot_at all r) }

abbrev pub parents_of : List Snapshot → List Ref → List Parent
parents_of all refs = map (parent all) refs

-- The snapshot stands above the one before it. Two underscores adjoin in its object's schema. Its definition has its
-- name, and suits the version. Its parents are snapshots of the book, it stands on them, and its rank is at most
-- 4,095; so its name's schema has no two underscores that adjoin.
abbrev pub is_snapshot_fit : ℕ → List Snapshot → Option Snapshot → Snapshot → Bool
is_snapshot_fit version all before s =
    is_above ref_cmp snapshot_ref before s
    && (has_two_underscores s.object.schema
    && (is_eq (name_cmp s.own.name s.name)
    && (suits version s.own.kind
    && (are_kept all s.parents
    && (nat_le s.rank 4095
    && stands_on (parents_of all s.parents) s.rank s.own)))))

-- a list has this reference
abbrev pub is_listed : List Ref → Ref → Bool
is_listed list r = is_some (found ref_cmp ref_itself r list)

abbrev pub parents_at : Option Snapshot → List Ref
parents_at None = []
parents_at (Some s) = s.parents

-- a list has the parents of the entry
abbrev pub has_parents : List Snapshot → List Ref → Ref → Bool
has_parents all list r = list_all (is_listed list) (parents_at (snapshot_at all r))

abbrev pub have_parents : List Snapshot → List Ref → List Ref → Bool
have_parents all list refs = list_all (has_parents all list) refs

-- The environment stands above the one before it. The entries of its lists are snapshots of the book. Its list is no
-- longer than 4,096, the names of the entries ascend, so that a model has one, and with an entry it has its parents.
abbrev pub is_env_fit : List Snapshot → Option Env → Env → Bool
is_env_fit all before e =
    is_above text_cmp env_name before e
    && (are_kept all e.list
    && (are_kept all e.previous
    && (nat_le (length e.list) 4096
    && (ascends name_cmp ref_name e.list && have_parents all e.list e.list))))

-- the place of the first item that breaks a rule on it and the item before it, from this place on
abbrev pub breach_from : {A : Type 0} → (Option A → A → Bool) → Option A → ℕ → List A → Option ℕ
breach_from rule before place [] = None
breach_from rule before place (x ∷ xs) = if rule before x then breach_from rule (Some x) (place + 1) xs else Some place

abbrev pub first_breach : {A : Type 0} → (Option A → A → Bool) → List A → Option ℕ
first_breach rule items = breach_from rule None 0 items

-- the moment and the version, which have one place
abbrev pub front_breach : ℤ → ℕ → Option ℕ
front_breach t version = if is_moment t && is_version version then None else Some 0

abbrev pub snapshots_breach : ℕ → List Snapshot → Option ℕ
snapshots_breach version all = first_breach (is_snapshot_fit version all) all

abbrev pub versions_breach : List Version → Option ℕ
versions_breach versions = first_breach (is_above name_cmp version_object) versions

abbrev pub envs_breach : List Snapshot → List Env → Option ℕ
envs_breach all envs = first_breach (is_env_fit all) envs

-- a breach of this part, or else a later one
abbrev pub breach_or : ℕ → Option ℕ → Option BookFault → Option BookFault
breach_or part None later = later
breach_or part (Some place) later = Some (record { part = part; place = place })

-- the first breach: of the moment and the version, of the snapshots, of the versions, of the environments
abbrev pub book_fault : Book → Option BookFault
book_fault b =
    breach_or 1 (front_breach b.moment b.version)
    (breach_or 2 (snapshots_breach b.version b.snapshots)
    (breach_or 3 (versions_breach b.versions)
    (breach_or 4 (envs_breach b.snapshots b.environments) None)))

-- each item keeps a rule on it and the item before it
abbrev pub all_fit : {A : Type 0} → (Option A → A → Bool) → Option A → List A → Bool
all_fit rule before [] = true
all_fit rule before (x ∷ xs) = rule before x && all_fit rule (Some x) xs

-- the moment and the version are in range, and each snapshot, version and environment keeps its rule
abbrev pub is_well_formed_book : Book → Bool
is_well_formed_book b =
    (is_moment b.moment && is_version b.version)
    && (all_fit (is_snapshot_fit b.version b.snapshots) None b.snapshots
    && (all_fit (is_above name_cmp version_object) None b.versions
    && all_fit (is_env_fit b.snapshots) None b.environments))

-- what a snapshot's definition may read: the sources that it declares, and the snapshot's parents
abbrev pub relations_of : List Snapshot → Snapshot → List Relation
relations_of all s = read_relations s.own.sources (parents_of all s.parents)

-- the columns of each FROM item of one of its SELECTs
unfoldable pub tables_in : List Snapshot → Snapshot → List (List Select) → List FromItem → List (List Column)
tables_in all s ctes from = tables_of (relations_of all s) ctes from
