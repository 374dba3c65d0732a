-- When records hold a world: there is a record for each of its things, under the name of its key and with its body, and
-- no other record.
use Rattle.std.specs.Prelude.{◌≡◌, ◌⊎◌, ◌≤◌, ◌==◌, ◌&&◌, ◌||◌, nat_le, ℕ, Bool, true, List, Some, None}
use Rattle.std.specs.List.{list_all}
use Rattle.std.specs.declared.option.Option.{Option}
use Rattle.mesh_list.specs.Keyed.{ascends, found}
use Rattle.mesh_base_values.specs.declared.values.Name.{Name}
use Rattle.mesh_base_values.specs.Names.{name_cmp, text_cmp}
use Rattle.mesh_base_values.specs.Picked.{same_text}
use Rattle.mesh_base.specs.declared.jobs.Input.{Input}
use Rattle.mesh_base.specs.declared.snapshots.Env.{Env}
use Rattle.mesh_base.specs.declared.snapshots.Ref.{Ref}
use Rattle.mesh_base.specs.declared.snapshots.Snapshot.{Snapshot}
use Rattle.mesh_base.specs.Keys.{env_name, input_name, ref_cmp, snapshot_ref}
use Rattle.mesh_house_book.specs.declared.book.Book.{Book}
use Rattle.mesh_house_book.specs.declared.versions.Version.{Version}
use Rattle.mesh_house_book.specs.Changes.{version_object}
use Rattle.mesh_house.specs.declared.objects.Object.{Object}
use Rattle.mesh_house.specs.declared.world.ViewOf.{ViewOf}
use Rattle.mesh_house.specs.declared.world.World.{World}
use Rattle.mesh_house.specs.Objects.{are_physical, object_name}
use Rattle.mesh_house.specs.Sources.{are_plain}
use Rattle.mesh_house.specs.World.{view_name}
use Rattle.mesh_canon_reading.specs.Fits.{text_fits}
use Rattle.mesh_keep_records.specs.declared.book_records.BookHead.{BookHead}
use Rattle.mesh_keep_records.specs.Keys.{env_key, head_key, snapshot_key, thing_key}
use Rattle.mesh_keep_records.specs.Records.{IsObjectText, IsSnapshotText, env_fits, env_text, head_fits, head_text, object_fits, snapshot_fits, source_fits, source_text, version_fits, version_text, view_text}
use Rattle.mesh_keep.specs.declared.kept.Kept.{Kept}
use Rattle.mesh_keep.specs.Places.{body_at}

-- there is a body exactly where there is a thing, and it is the thing's
abbrev pub Keeps : {A : Type 0} → (List ℕ → A → Type 0) → Option (List ℕ) → Option A → Type 0
Keeps Is None None = Unit {0}
Keeps Is None (Some x) = ⊥
Keeps Is (Some body) None = ⊥
Keeps Is (Some body) (Some x) = (text_fits body ≡ true) × Is body x

-- what a book has besides its lists
abbrev pub head_of : Book → BookHead
head_of b = record { version = b.version; moment = b.moment }

-- the body of each kind of thing, which a program can hold
abbrev pub IsHead : List ℕ → BookHead → Type 0
IsHead body h = (head_fits h ≡ true) × (body ≡ head_text h)

abbrev pub IsSnapshot : List ℕ → Snapshot → Type 0
IsSnapshot body s = (snapshot_fits s ≡ true) × IsSnapshotText body s

abbrev pub IsVersion : List ℕ → Version → Type 0
IsVersion body v = (version_fits v ≡ true) × (body ≡ version_text v)

abbrev pub IsEnv : List ℕ → Env → Type 0
IsEnv body e = (env_fits e ≡ true) × (body ≡ env_text e)

abbrev pub IsView : List ℕ → ViewOf → Type 0
IsView body v = body ≡ view_text v

abbrev pub IsObject : List ℕ → Object → Type 0
IsObject body o = (object_fits o ≡ true) × IsObjectText body o

abbrev pub IsSource : List ℕ → Input → Type 0
IsSource body s = (source_fits s ≡ true) × (body ≡ source_text s)

-- the names that records of a kind may have
abbrev pub IsKey : ℕ → List ℕ → Type 0
IsKey kind name =
    ((kind ≡ 0) × (name ≡ head_key))
    ⊎ (((kind ≡ 1) × (k : Ref) × (name ≡ snapshot_key k.name k.fingerprint))
    ⊎ (((kind ≡ 3) × (k : List ℕ) × (name ≡ env_key k))
    ⊎ (((kind ≡ 2) ⊎ ((kind ≡ 4) ⊎ ((kind ≡ 5) ⊎ (kind ≡ 6)))) × (k : Name) × (name ≡ thing_key k))))

-- the kinds of which a world has any number of things
abbrev pub IsListed : ℕ → Type 0
IsListed kind = (1 ≤ kind) × (kind ≤ 6)

abbrev pub is_listed : ℕ → Bool
is_listed kind = nat_le 1 kind && nat_le kind 6

-- a record of a kind that a world has, and of the first kind the one that it has
abbrev pub is_known : Kept → Bool
is_known k = is_listed k.kind || ((k.kind == 0) && same_text k.name head_key)

abbrev pub all_known : List Kept → Bool
all_known kept = list_all is_known kept

-- the lists of a world are in order, and its objects and sources have names that they may have
pub record IsOrdered (w : World) : Type 0 where
  pub snapshots : ascends ref_cmp snapshot_ref w.book.snapshots ≡ true
  pub versions : ascends name_cmp version_object w.book.versions ≡ true
  pub environments : ascends text_cmp env_name w.book.environments ≡ true
  pub views : ascends name_cmp view_name w.views ≡ true
  pub objects : ascends name_cmp object_name w.objects ≡ true
  pub sources : ascends name_cmp input_name w.sources ≡ true
  pub physical : are_physical w.objects ≡ true
  pub plain : are_plain w.sources ≡ true

-- among the records are those of the world: one of kind 0, and one of kinds 1 to 6 for each snapshot, version,
-- environment, view, object and source, and no other of these six kinds
pub record Knows (kept : List Kept) (w : World) : Type 0 where
  pub ordered : IsOrdered w
  pub head : Keeps IsHead (body_at kept 0 head_key) (Some (head_of w.book))
  pub snapshots : (k : Ref) → Keeps IsSnapshot (body_at kept 1 (snapshot_key k.name k.fingerprint)) (found ref_cmp snapshot_ref k w.book.snapshots)
  pub versions : (k : Name) → Keeps IsVersion (body_at kept 2 (thing_key k)) (found name_cmp version_object k w.book.versions)
  pub environments : (k : List ℕ) → Keeps IsEnv (body_at kept 3 (env_key k)) (found text_cmp env_name k w.book.environments)
  pub views : (k : Name) → Keeps IsView (body_at kept 4 (thing_key k)) (found name_cmp view_name k w.views)
  pub objects : (k : Name) → Keeps IsObject (body_at kept 5 (thing_key k)) (found name_cmp object_name k w.objects)
  pub sources : (k : Name) → Keeps IsSource (body_at kept 6 (thing_key k)) (found name_cmp input_name k w.sources)
  pub names : (kind : ℕ) (name body : List ℕ) → body_at kept kind name ≡ Some body → IsListed kind → IsKey kind name

-- these are the records of the world, and there is no other
pub record Holds (kept : List Kept) (w : World) : Type 0 where
  pub known : Knows kept w
  pub alone : all_known kept ≡ true
