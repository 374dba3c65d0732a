-- What stays, as the janitor finds it: by descending rank, so that what stands on a snapshot comes before it.
use Rattle.std.specs.Prelude.{ℕ, zero, suc, ℤ, Bool, not, ◌||◌, ◌&&◌, nat_eq, if◌then◌else◌, List, [], ◌∷◌, ◌++◌}
use Rattle.std.specs.List.{filter, flat_map}
use Rattle.std.specs.Int.Signed.{le_z}
use Rattle.mesh_list.specs.Keyed.{placed}
use Rattle.mesh_base_values.specs.Names.{name_cmp}
use Rattle.mesh_base_values.specs.declared.values.Name.{Name}
use Rattle.mesh_base.specs.Keys.{snapshot_ref}
use Rattle.mesh_base.specs.declared.snapshots.Env.{Env}
use Rattle.mesh_base.specs.declared.snapshots.Ref.{Ref}
use Rattle.mesh_base.specs.declared.snapshots.Snapshot.{Snapshot}
use Rattle.mesh_house_book.specs.Changes.{with_refs}
use Rattle.mesh_house_book.specs.WellFormed.{is_listed}
use Rattle.mesh_house.specs.declared.world.Change.{Change}
use Rattle.mesh_house.specs.declared.world.Change.TheVariants.{DeleteSnapshot, DropObject, ForgetVersion}
use Rattle.mesh_spec_changes.specs.Changes.{name_itself}
use Rattle.mesh_spec_changes.specs.Environments.{is_over}

-- what is wanted after an environment that stays, or goes
abbrev pub env_after : ℤ → Env → List Ref → List Ref
env_after t e wanted = if is_over t e.expires then wanted else with_refs (with_refs wanted e.list) e.previous

abbrev pub envs_after : ℤ → List Env → List Ref → List Ref
envs_after t [] wanted = wanted
envs_after t (e ∷ es) wanted = envs_after t es (env_after t e wanted)

-- a snapshot stays at a moment where it is young, or wanted
abbrev pub stays : ℤ → List Ref → Snapshot → Bool
stays t wanted s = not (le_z s.expires t) || is_listed wanted (snapshot_ref s)

-- where it stays, its parents are wanted
abbrev pub after : ℤ → Snapshot → List Ref → List Ref
after t s wanted = if stays t wanted s then with_refs wanted s.parents else wanted

-- what is wanted after the snapshots of one rank
abbrev pub layer : ℤ → ℕ → List Snapshot → List Ref → List Ref
layer t rank [] wanted = wanted
layer t rank (s ∷ ss) wanted = layer t rank ss (if nat_eq s.rank rank then after t s wanted else wanted)

-- and after those of all ranks below a limit
abbrev pub layers : ℤ → ℕ → List Snapshot → List Ref → List Ref
layers t zero all wanted = wanted
layers t (suc rank) all wanted = layers t rank all (layer t rank all wanted)

-- the snapshots of one rank that pass a test
abbrev pub gone_layer : (Snapshot → Bool) → ℕ → List Snapshot → List Snapshot
gone_layer p rank all = filter (λ s. nat_eq s.rank rank && p s) all

-- the snapshots that pass a test, by descending rank below a limit, and then as they stand
abbrev pub by_layers : (Snapshot → Bool) → ℕ → List Snapshot → List Snapshot
by_layers p zero all = []
by_layers p (suc rank) all = gone_layer p rank all ++ by_layers p rank all

-- a snapshot goes where it doesn't stay
abbrev pub goes : ℤ → List Ref → Snapshot → Bool
goes t wanted s = not (stays t wanted s)

abbrev pub deletes : Snapshot → Change
deletes s = DeleteSnapshot s.name s.fingerprint

-- the change that takes a snapshot out, where it is of this rank and passes a test
abbrev pub deletes_of : (Snapshot → Bool) → ℕ → Snapshot → List Change
deletes_of p rank s = if nat_eq s.rank rank && p s then deletes s ∷ [] else []

-- the same for some snapshots, by descending rank below a limit
abbrev pub deletes_by : (Snapshot → Bool) → ℕ → List Snapshot → List Change
deletes_by p zero all = []
deletes_by p (suc rank) all = flat_map (deletes_of p rank) all ++ deletes_by p rank all

abbrev pub forgets : Name → Change
forgets name = ForgetVersion name

abbrev pub discards : Name → Change
discards name = DropObject name

-- names with others, by their order
abbrev pub with_names : List Name → List Name → List Name
with_names [] names = names
with_names (n ∷ ns) names = placed name_cmp name_itself n (with_names ns names)

abbrev pub snapshot_object : Snapshot → Name
snapshot_object s = s.object

-- the objects of some snapshots that stay, with other names
abbrev pub object_after : ℤ → List Ref → Snapshot → List Name → List Name
object_after t wanted s names = if stays t wanted s then placed name_cmp name_itself s.object names else names

abbrev pub objects_after : ℤ → List Ref → List Snapshot → List Name → List Name
objects_after t wanted [] names = names
objects_after t wanted (s ∷ ss) names = objects_after t wanted ss (object_after t wanted s names)
