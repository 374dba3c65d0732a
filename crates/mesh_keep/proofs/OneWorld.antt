-- Records among which are those of a world are those of no other: each list of the world is the one list in order of
-- what is found by its keys.
use Rattle.std.proofs.Common.{◌≡◌, ℕ, true, List, Some, None, refl, ap}
use Rattle.std.specs.declared.option.Option.{Option}
use Rattle.std.proofs.lemmas.Map.Lookups.{exact_bytes}
use Rattle.mesh_list.specs.Keyed.{found}
use Rattle.mesh_base_values.specs.Names.{name_cmp, text_cmp}
use Rattle.mesh_base_values.specs.NameOrder.{names_exact, names_total, texts_total}
use Rattle.mesh_base.specs.Keys.{env_name, input_name, ref_cmp, refs_exact, refs_total, snapshot_ref}
use Rattle.mesh_house_book.specs.Changes.{version_object}
use Rattle.mesh_house_book.proofs.moves.Sorting.{one_list}
use Rattle.mesh_house.specs.declared.world.World.{World}
use Rattle.mesh_house.specs.Objects.{object_name}
use Rattle.mesh_house.specs.World.{view_name}
use Rattle.mesh_canon_reading.specs.Fits.{text_fits}
use Rattle.mesh_canon_reading.proofs.Exact.{some_is}
use Rattle.mesh_keep_records.specs.declared.book_records.BookHead.{BookHead}
use Rattle.mesh_keep_records.specs.Keys.{env_key, head_key, snapshot_key, thing_key}
use Rattle.mesh_keep_records.proofs.Things.{env_tells, head_tells, object_tells, snapshot_tells, source_tells, version_tells, view_tells}
use Rattle.mesh_keep.specs.declared.kept.Kept.{Kept}
use Rattle.mesh_keep.specs.Places.{body_at}
use Rattle.mesh_keep.specs.Holds.{Holds, IsEnv, IsHead, IsObject, IsSnapshot, IsSource, IsVersion, IsView, Keeps, Knows, head_of}

-- one body keeps one thing
keeps_one : {A : Type 0} (Is : List ℕ → A → Type 0) → ((t : List ℕ) (x y : A) → text_fits t ≡ true → Is t x → Is t y → x ≡ y) → (b : Option (List ℕ)) (o p : Option A) → Keeps Is b o → Keeps Is b p → o ≡ p
keeps_one Is one None None None x y = refl
keeps_one Is one None None (Some q) x y = absurd y
keeps_one Is one None (Some o) p x y = absurd x
keeps_one Is one (Some t) None p x y = absurd x
keeps_one Is one (Some t) (Some o) None x y = absurd y
keeps_one Is one (Some t) (Some o) (Some q) x y = ap Some (one t o q x.0 x.1 y.1)

snapshots_one : (kept : List Kept) (a b : World) → Knows kept a → Knows kept b → a.book.snapshots ≡ b.book.snapshots
snapshots_one kept a b x y =
    one_list ref_cmp refs_total refs_exact snapshot_ref a.book.snapshots b.book.snapshots x.ordered.snapshots y.ordered.snapshots
    (λ k. keeps_one IsSnapshot (λ t p q f i j. snapshot_tells t p q f i.0 j.0 i.1 j.1) (body_at kept 1 (snapshot_key k.name k.fingerprint))
    (found ref_cmp snapshot_ref k a.book.snapshots) (found ref_cmp snapshot_ref k b.book.snapshots) (x.snapshots k) (y.snapshots k))

versions_one : (kept : List Kept) (a b : World) → Knows kept a → Knows kept b → a.book.versions ≡ b.book.versions
versions_one kept a b x y =
    one_list name_cmp names_total names_exact version_object a.book.versions b.book.versions x.ordered.versions y.ordered.versions
    (λ k. keeps_one IsVersion (λ t p q f i j. version_tells t p q f i.0 j.0 i.1 j.1) (body_at kept 2 (thing_key k))
    (found name_cmp version_object k a.book.versions) (found name_cmp version_object k b.book.versions) (x.versions k) (y.versions k))

environments_one : (kept : List Kept) (a b : World) → Knows kept a → Knows kept b → a.book.environments ≡ b.book.environments
environments_one kept a b x y =
    one_list text_cmp texts_total exact_bytes env_name a.book.environments b.book.environments x.ordered.environments y.ordered.environments
    (λ k. keeps_one IsEnv (λ t p q f i j. env_tells t p q f i.0 j.0 i.1 j.1) (body_at kept 3 (env_key k))
    (found text_cmp env_name k a.book.environments) (found text_cmp env_name k b.book.environments) (x.environments k) (y.environments k))

views_one : (kept : List Kept) (a b : World) → Knows kept a → Knows kept b → a.views ≡ b.views
views_one kept a b x y =
    one_list name_cmp names_total names_exact view_name a.views b.views x.ordered.views y.ordered.views
    (λ k. keeps_one IsView view_tells (body_at kept 4 (thing_key k))
    (found name_cmp view_name k a.views) (found name_cmp view_name k b.views) (x.views k) (y.views k))

objects_one : (kept : List Kept) (a b : World) → Knows kept a → Knows kept b → a.objects ≡ b.objects
objects_one kept a b x y =
    one_list name_cmp names_total names_exact object_name a.objects b.objects x.ordered.objects y.ordered.objects
    (λ k. keeps_one IsObject (λ t p q f i j. object_tells t p q f i.0 j.0 i.1 j.1) (body_at kept 5 (thing_key k))
    (found name_cmp object_name k a.objects) (found name_cmp object_name k b.objects) (x.objects k) (y.objects k))

sources_one : (kept : List Kept) (a b : World) → Knows kept a → Knows kept b → a.sources ≡ b.sources
sources_one kept a b x y =
    one_list name_cmp names_total names_exact input_name a.sources b.sources x.ordered.sources y.ordered.sources
    (λ k. keeps_one IsSource (λ t p q f i j. source_tells t p q f i.0 j.0 i.1 j.1) (body_at kept 6 (thing_key k))
    (found name_cmp input_name k a.sources) (found name_cmp input_name k b.sources) (x.sources k) (y.sources k))

head_one : (kept : List Kept) (a b : World) → Knows kept a → Knows kept b → head_of a.book ≡ head_of b.book
head_one kept a b x y =
    some_is (head_of a.book) (head_of b.book)
    (keeps_one IsHead (λ t p q f i j. head_tells t p q f i.0 j.0 i.1 j.1) (body_at kept 0 head_key) (Some (head_of a.book)) (Some (head_of b.book)) x.head y.head)

pub known_one : (kept : List Kept) (a b : World) → Knows kept a → Knows kept b → a ≡ b
known_one kept a b x y =
    let h = head_one kept a b x y in
    let version : a.book.version ≡ b.book.version = ap (λ (g : BookHead). g.version) h in
    let moment : a.book.moment ≡ b.book.moment = ap (λ (g : BookHead). g.moment) h in
    let snapshots = snapshots_one kept a b x y in
    let versions = versions_one kept a b x y in
    let environments = environments_one kept a b x y in
    let views = views_one kept a b x y in
    let objects = objects_one kept a b x y in
    let sources = sources_one kept a b x y in
    λ i. record {
      sources = sources i;
      objects = objects i;
      views = views i;
      book = record { version = version i; moment = moment i; snapshots = snapshots i; versions = versions i; environments = environments i };
    }

pub one_world : (kept : List Kept) (a b : World) → Holds kept a → Holds kept b → a ≡ b
one_world kept a b x y = known_one kept a b x.known y.known
