-- What the janitor leaves, and the list of changes that it makes.
use Rattle.std.specs.Prelude.{ℤ, ℕ, zero, suc, Bool, not, List, [], ◌∷◌, ◌++◌, map}
use Rattle.std.specs.List.{filter, flat_map, list_any}
use Rattle.std.specs.declared.cmp.Ordering.{Ordering}
use Rattle.std.specs.Int.Signed.{le_z}
use Rattle.std.specs.Ordering.{is_eq, nat_cmp, ordering_then}
use Rattle.mesh_list.specs.Keyed.{placed}
use Rattle.mesh_base_values.specs.declared.values.Name.{Name}
use Rattle.mesh_base.specs.Keys.{ref_cmp, ref_name, snapshot_ref}
use Rattle.mesh_base.specs.declared.snapshots.Ref.{Ref}
use Rattle.mesh_base.specs.declared.snapshots.Snapshot.{Snapshot}
use Rattle.mesh_base.specs.declared.snapshots.Env.{Env}
use Rattle.mesh_house_book.specs.declared.book.Book.{Book}
use Rattle.mesh_house_book.specs.declared.versions.Version.{Version}
use Rattle.mesh_house.specs.declared.world.Change.{Change}
use Rattle.mesh_house.specs.declared.world.Change.TheVariants.{Moment, SetPending, DropView, ForgetVersion, DropObject, DeleteSnapshot, DeleteEnv}
use Rattle.mesh_spec_changes.specs.listed.Listed.{named, snapshot_itself}
use Rattle.mesh_spec_changes.specs.due.Parts.{same_name}
use Rattle.mesh_spec_changes.specs.Changes.{names_by_order}
use Rattle.mesh_spec_changes.specs.Environments.{is_over, view_in}

-- a snapshot with all that it stands on, down to so many generations
abbrev pub line : List Snapshot → ℕ → Snapshot → List Ref
line all zero s = snapshot_ref s ∷ []
line all (suc depth) s = snapshot_ref s ∷ flat_map (line all depth) (named all s.parents)

-- the environments that stay at a moment, and those that go
abbrev pub staying : ℤ → List Env → List Env
staying t envs = filter (λ (e : Env). not (is_over t e.expires)) envs

-- those whose time is over
abbrev pub leaving : ℤ → List Env → List Env
leaving t envs = filter (λ (e : Env). is_over t e.expires) envs

-- what an environment names: its list, and the one that it had before
abbrev pub both_lists : Env → List Ref
both_lists e = e.list ++ e.previous

-- the snapshots that stay for their own sake: those that an environment has, and the young ones
abbrev pub roots : Book → ℤ → List Snapshot
roots b t = named b.snapshots (flat_map both_lists (staying t b.environments)) ++ filter (λ (s : Snapshot). not (le_z s.expires t)) b.snapshots

-- these with all that they stand on
abbrev pub kept : Book → ℤ → List Ref
kept b t = flat_map (λ (s : Snapshot). line b.snapshots s.rank s) (roots b t)

-- a snapshot stays
abbrev pub is_kept : Book → ℤ → Snapshot → Bool
is_kept b t s = list_any (λ r. is_eq (ref_cmp r (snapshot_ref s))) (kept b t)

-- a table stays where a snapshot that stays uses it
abbrev pub is_table_kept : Book → ℤ → Name → Bool
is_table_kept b t name = list_any (λ (s : Snapshot). same_name s.object name) (filter (is_kept b t) b.snapshots)

-- the tables and stored queries that a snapshot or a version names
abbrev pub tables : Book → List Name
tables b = names_by_order (map (λ (s : Snapshot). s.object) b.snapshots ++ map (λ (v : Version). v.object) b.versions)

-- the others go
abbrev pub gone_tables : Book → ℤ → List Name
gone_tables b t = filter (λ n. not (is_table_kept b t n)) (tables b)

-- by descending rank, then name, then fingerprint
abbrev pub down_cmp : Snapshot → Snapshot → Ordering
down_cmp a b = ordering_then (nat_cmp b.rank a.rank) (ref_cmp (snapshot_ref a) (snapshot_ref b))

-- snapshots in that order
abbrev pub downwards : List Snapshot → List Snapshot
downwards [] = []
downwards (s ∷ ss) = placed down_cmp snapshot_itself s (downwards ss)

-- the snapshots that go, those first that stand on others
abbrev pub gone_snapshots : Book → ℤ → List Snapshot
gone_snapshots b t = downwards (filter (λ s. not (is_kept b t s)) b.snapshots)

-- an environment goes with its views
abbrev pub removes : Env → List Change
removes e = SetPending e.name [] e.expires ∷ (map (λ n. DropView (view_in e.name n)) (names_by_order (map ref_name (both_lists e))) ++ DeleteEnv e.name ∷ [])

-- the changes of the janitor: all versions that go are forgotten before the first object is dropped
abbrev pub sweeps : Book → ℤ → List Change
sweeps b t =
    Moment t ∷ (flat_map removes (leaving t b.environments)
    ++ (map (λ n. ForgetVersion n) (gone_tables b t)
    ++ (map (λ n. DropObject n) (gone_tables b t)
    ++ map (λ (s : Snapshot). DeleteSnapshot s.name s.fingerprint) (gone_snapshots b t))))
