-- The world that records say, where each says a thing and stands under the name of its key.
use Rattle.std.specs.Prelude.{ℕ, Bool, true, ◌&&◌, not, List, [], ◌∷◌, if◌then◌else◌, Some, None}
use Rattle.std.specs.declared.option.Option.{Option}
use Rattle.std.specs.declared.cmp.Ordering.{Ordering}
use Rattle.mesh_list.specs.Keyed.{placed}
use Rattle.mesh_base_values.specs.Names.{name_cmp, text_cmp}
use Rattle.mesh_base_values.specs.Picked.{same_text}
use Rattle.mesh_base.specs.declared.jobs.Input.{Input}
use Rattle.mesh_base.specs.declared.snapshots.Env.{Env}
use Rattle.mesh_base.specs.declared.snapshots.Snapshot.{Snapshot}
use Rattle.mesh_base.specs.Keys.{env_name, input_name, ref_cmp, snapshot_ref}
use Rattle.mesh_house_book.specs.declared.book.Book.{Book}
use Rattle.mesh_house_book.specs.declared.versions.Version.{Version}
use Rattle.mesh_house_book.specs.Changes.{version_object}
use Rattle.mesh_house.specs.declared.objects.Object.{Object}
use Rattle.mesh_house.specs.declared.world.ViewOf.{ViewOf}
use Rattle.mesh_house.specs.declared.world.World.{World}
use Rattle.mesh_house.specs.Objects.{is_physical, object_name}
use Rattle.mesh_house.specs.World.{view_name}
use Rattle.mesh_canon_words.specs.Words.{◌>>=◌}
use Rattle.mesh_keep_records.specs.declared.book_records.BookHead.{BookHead}
use Rattle.mesh_keep_records.specs.Keys.{env_key, head_key, snapshot_key, thing_key}
use Rattle.mesh_keep_records.specs.reading.Reading.{env_in, head_in, object_in, snapshot_in, source_in, version_in, view_in}
use Rattle.mesh_keep.specs.declared.kept.Kept.{Kept}
use Rattle.mesh_keep.specs.declared.kept.Record.{Record}
use Rattle.mesh_keep.specs.Holds.{all_known}
use Rattle.mesh_keep.specs.Places.{body_at, records_of}

-- what a record says, where it stands under the name of that and a world may have it
abbrev pub thing_in : {A : Type 0} → (List ℕ → Option A) → (A → List ℕ) → (A → Bool) → Record → Option A
thing_in read name may r = read r.body >>= λ x. if same_text r.name (name x) && may x then Some x else None

-- what records say, one after another, each placed among these
abbrev pub things_in : {A K : Type 0} → (K → K → Ordering) → (A → K) → (Record → Option A) → List A → List Record → Option (List A)
things_in R key thing xs [] = Some xs
things_in R key thing xs (r ∷ rs) = thing r >>= λ x. things_in R key thing (placed R key x xs) rs

abbrev pub snapshot_said : Record → Option Snapshot
snapshot_said r = thing_in snapshot_in (λ s. snapshot_key s.name s.fingerprint) (λ s. true) r

abbrev pub version_said : Record → Option Version
version_said r = thing_in version_in (λ v. thing_key v.object) (λ v. true) r

abbrev pub env_said : Record → Option Env
env_said r = thing_in env_in (λ e. env_key e.name) (λ e. true) r

abbrev pub view_said : Record → Option ViewOf
view_said r = thing_in view_in (λ v. thing_key v.view) (λ v. true) r

abbrev pub object_said : Record → Option Object
object_said r = thing_in object_in (λ o. thing_key o.name) (λ o. is_physical o.name) r

abbrev pub source_said : Record → Option Input
source_said r = thing_in source_in (λ s. thing_key s.name) (λ s. not (is_physical s.name)) r

-- all of a kind
abbrev pub snapshots_said : List Kept → Option (List Snapshot)
snapshots_said kept = things_in ref_cmp snapshot_ref snapshot_said [] (records_of 1 kept)

abbrev pub versions_said : List Kept → Option (List Version)
versions_said kept = things_in name_cmp version_object version_said [] (records_of 2 kept)

abbrev pub envs_said : List Kept → Option (List Env)
envs_said kept = things_in text_cmp env_name env_said [] (records_of 3 kept)

abbrev pub views_said : List Kept → Option (List ViewOf)
views_said kept = things_in name_cmp view_name view_said [] (records_of 4 kept)

abbrev pub objects_said : List Kept → Option (List Object)
objects_said kept = things_in name_cmp object_name object_said [] (records_of 5 kept)

abbrev pub sources_said : List Kept → Option (List Input)
sources_said kept = things_in name_cmp input_name source_said [] (records_of 6 kept)

-- what a book has besides its lists
abbrev pub head_said : List Kept → Option BookHead
head_said kept = body_at kept 0 head_key >>= head_in

-- the book that the first four kinds say
abbrev pub book_said : List Kept → Option Book
book_said kept = do
  head ← head_said kept
  snapshots ← snapshots_said kept
  versions ← versions_said kept
  environments ← envs_said kept
  Some (record { version = head.version; moment = head.moment; snapshots = snapshots; versions = versions; environments = environments })

-- the world that all seven kinds say, where each of their records says a thing
unfoldable pub known_world : List Kept → Option World
known_world kept = do
  book ← book_said kept
  views ← views_said kept
  objects ← objects_said kept
  sources ← sources_said kept
  Some (record { sources = sources; objects = objects; views = views; book = book })

-- the same, where there is no record of another kind
unfoldable pub world_of : List Kept → Option World
world_of kept = if all_known kept then known_world kept else None
