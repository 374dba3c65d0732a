-- What a body says of a thing of a world, and which things have one place.
use Rattle.std.proofs.Common.{◌≡◌, ℕ, zero, suc, Bool, true, ◌&&◌, List, Some, None, refl, sym, ap, subst, ◌∙◌}
use Rattle.std.specs.declared.option.Option.{Option}
use Rattle.std.specs.Option.{option_map}
use Rattle.std.proofs.lemmas.Bool.{and_parts}
use Rattle.mesh_list.specs.Keyed.{found}
use Rattle.mesh_base_values.specs.declared.values.Name.{Name}
use Rattle.mesh_base_values.specs.Names.{name_cmp, text_cmp}
use Rattle.mesh_base.specs.declared.snapshots.Ref.{Ref}
use Rattle.mesh_base.specs.Keys.{env_name, input_name, ref_cmp, snapshot_ref}
use Rattle.mesh_house_book.specs.Changes.{version_object}
use Rattle.mesh_house.specs.declared.objects.Body.{Body}
use Rattle.mesh_house.specs.declared.objects.Body.TheVariants.{Rows, Stored}
use Rattle.mesh_house.specs.declared.world.World.{World}
use Rattle.mesh_house.specs.Objects.{object_name}
use Rattle.mesh_house.specs.World.{view_name}
use Rattle.mesh_canon_text.specs.declared.form.Form.TheVariants.{Current}
use Rattle.mesh_canon_text.specs.Text.{own_text}
use Rattle.mesh_canon_reading.specs.Fits.{text_fits}
use Rattle.mesh_keep_records.specs.Parts.{option_fits}
use Rattle.mesh_keep_records.specs.Records.{IsStoredText, env_fits, env_text, object_fits, snapshot_fits, source_fits, source_text, stored_text, version_fits, version_text, view_text}
use Rattle.mesh_keep.specs.declared.kept.Place.{Place}
use Rattle.mesh_keep.specs.Holds.{IsEnv, IsHead, IsObject, IsSnapshot, IsSource, IsVersion, IsView, Keeps, head_of}
use Rattle.mesh_keep.proofs.Names.{env_one, snapshot_one, thing_one}
use Rattle.mesh_keep_house.specs.declared.touched.things.Thing.{Thing}
use Rattle.mesh_keep_house.specs.declared.touched.things.Thing.TheVariants as things
use Rattle.mesh_keep_house.specs.touched.Touched.{body_in, key_fits, object_body, place_of, snapshot_body, thing_fits, value_fits}

-- the body is that of what the world has
abbrev pub Right : Option (List ℕ) → World → Thing → Type 0
Right b w things.Head = Keeps IsHead b (Some (head_of w.book))
Right b w (things.Snapshot k) = Keeps IsSnapshot b (found ref_cmp snapshot_ref k w.book.snapshots)
Right b w (things.Version k) = Keeps IsVersion b (found name_cmp version_object k w.book.versions)
Right b w (things.Env k) = Keeps IsEnv b (found text_cmp env_name k w.book.environments)
Right b w (things.View k) = Keeps IsView b (found name_cmp view_name k w.views)
Right b w (things.Object k) = Keeps IsObject b (found name_cmp object_name k w.objects)
Right b w (things.Source k) = Keeps IsSource b (found name_cmp input_name k w.sources)

-- the second world has the same of a thing as the first
abbrev pub Alike : World → World → Thing → Type 0
Alike w v things.Head = head_of v.book ≡ head_of w.book
Alike w v (things.Snapshot k) = found ref_cmp snapshot_ref k v.book.snapshots ≡ found ref_cmp snapshot_ref k w.book.snapshots
Alike w v (things.Version k) = found name_cmp version_object k v.book.versions ≡ found name_cmp version_object k w.book.versions
Alike w v (things.Env k) = found text_cmp env_name k v.book.environments ≡ found text_cmp env_name k w.book.environments
Alike w v (things.View k) = found name_cmp view_name k v.views ≡ found name_cmp view_name k w.views
Alike w v (things.Object k) = found name_cmp object_name k v.objects ≡ found name_cmp object_name k w.objects
Alike w v (things.Source k) = found name_cmp input_name k v.sources ≡ found name_cmp input_name k w.sources

pub right_alike : (b : Option (List ℕ)) (w v : World) (t : Thing) → Alike w v t → Right b w t → Right b v t
right_alike b w v things.Head e r = subst (λ h. Keeps IsHead b (Some h)) (sym e) r
right_alike b w v (things.Snapshot k) e r = subst (Keeps IsSnapshot b) (sym e) r
right_alike b w v (things.Version k) e r = subst (Keeps IsVersion b) (sym e) r
right_alike b w v (things.Env k) e r = subst (Keeps IsEnv b) (sym e) r
right_alike b w v (things.View k) e r = subst (Keeps IsView b) (sym e) r
right_alike b w v (things.Object k) e r = subst (Keeps IsObject b) (sym e) r
right_alike b w v (things.Source k) e r = subst (Keeps IsSource b) (sym e) r

-- the body that is written of a thing
by_found : {A : Type 0} (Is : List ℕ → A → Type 0) (text : A → List ℕ) (fits : A → Bool) → ((x : A) → fits x ≡ true → Is (text x) x) → (o : Option A) → option_fits fits o ≡ true → option_fits text_fits (option_map text o) ≡ true → Keeps Is (option_map text o) o
by_found Is text fits is None p q = tt
by_found Is text fits is (Some x) p q = (q, is x p)

stored_is : (b : Body) → IsStoredText (stored_text b) b
stored_is (Rows rows) = tt
stored_is (Stored m targets) = (Current, tt, refl)

right_by : (v : World) (t : Thing) → value_fits v t ≡ true → option_fits text_fits (body_in v t) ≡ true → Right (body_in v t) v t
right_by v things.Head p q = (q, (p, refl))
right_by v (things.Snapshot k) p q = by_found IsSnapshot snapshot_body snapshot_fits (λ x f. (f, (own_text x.own, (Current, tt, refl), refl))) (found ref_cmp snapshot_ref k v.book.snapshots) p q
right_by v (things.Version k) p q = by_found IsVersion version_text version_fits (λ x f. (f, refl)) (found name_cmp version_object k v.book.versions) p q
right_by v (things.Env k) p q = by_found IsEnv env_text env_fits (λ x f. (f, refl)) (found text_cmp env_name k v.book.environments) p q
right_by v (things.View k) p q = by_found IsView view_text (λ x. true) (λ x f. refl) (found name_cmp view_name k v.views) (any_fits (found name_cmp view_name k v.views)) q
  where
    any_fits : {A : Type 0} (o : Option A) → option_fits (λ x. true) o ≡ true
    any_fits None = refl
    any_fits (Some x) = refl
right_by v (things.Object k) p q = by_found IsObject object_body object_fits (λ x f. (f, (stored_text x.body, stored_is x.body, refl))) (found name_cmp object_name k v.objects) p q
right_by v (things.Source k) p q = by_found IsSource source_text source_fits (λ x f. (f, refl)) (found name_cmp input_name k v.sources) p q

-- the parts of a test of a thing
pub record Fit (v : World) (t : Thing) : Type 0 where
  pub key : key_fits t ≡ true
  pub name : text_fits (place_of t).name ≡ true
  pub right : Right (body_in v t) v t

pub fit : (v : World) (t : Thing) → thing_fits v t ≡ true → Fit v t
fit v t h =
    let p = and_parts (key_fits t && text_fits (place_of t).name) (value_fits v t && option_fits text_fits (body_in v t)) h in
    let q = and_parts (key_fits t) (text_fits (place_of t).name) p.0 in
    let r = and_parts (value_fits v t) (option_fits text_fits (body_in v t)) p.1 in
    record { key = q.0; name = q.1; right = right_by v t r.0 r.1 }

-- a thing by the number of its kind
abbrev OfKind : ℕ → Thing → Type 0
OfKind zero u = u ≡ things.Head
OfKind (suc zero) u = (k : Ref) × (u ≡ things.Snapshot k)
OfKind (suc (suc zero)) u = (k : Name) × (u ≡ things.Version k)
OfKind (suc (suc (suc zero))) u = (k : List ℕ) × (u ≡ things.Env k)
OfKind (suc (suc (suc (suc zero)))) u = (k : Name) × (u ≡ things.View k)
OfKind (suc (suc (suc (suc (suc zero))))) u = (k : Name) × (u ≡ things.Object k)
OfKind (suc (suc (suc (suc (suc (suc n)))))) u = (k : Name) × (u ≡ things.Source k)

of_kind : (u : Thing) → OfKind (place_of u).kind u
of_kind things.Head = refl
of_kind (things.Snapshot k) = (k, refl)
of_kind (things.Version k) = (k, refl)
of_kind (things.Env k) = (k, refl)
of_kind (things.View k) = (k, refl)
of_kind (things.Object k) = (k, refl)
of_kind (things.Source k) = (k, refl)

-- things of one place are one
pub one_thing : (t u : Thing) → key_fits t ≡ true → text_fits (place_of t).name ≡ true → place_of t ≡ place_of u → t ≡ u
one_thing things.Head u d f e = sym (subst (λ n. OfKind n u) (sym (ap (λ (p : Place). p.kind) e)) (of_kind u))
one_thing (things.Snapshot j) u d f e =
    let o : OfKind 1 u = subst (λ n. OfKind n u) (sym (ap (λ (p : Place). p.kind) e)) (of_kind u) in
    let n = ap (λ (p : Place). p.name) (e ∙ ap place_of o.1) in
    ap things.Snapshot (sym (snapshot_one o.0 j d f (sym n))) ∙ sym o.1
one_thing (things.Version j) u d f e =
    let o : OfKind 2 u = subst (λ n. OfKind n u) (sym (ap (λ (p : Place). p.kind) e)) (of_kind u) in
    let n = ap (λ (p : Place). p.name) (e ∙ ap place_of o.1) in
    ap things.Version (sym (thing_one o.0 j f (sym n))) ∙ sym o.1
one_thing (things.Env j) u d f e =
    let o : OfKind 3 u = subst (λ n. OfKind n u) (sym (ap (λ (p : Place). p.kind) e)) (of_kind u) in
    let n = ap (λ (p : Place). p.name) (e ∙ ap place_of o.1) in
    ap things.Env (sym (env_one o.0 j f (sym n))) ∙ sym o.1
one_thing (things.View j) u d f e =
    let o : OfKind 4 u = subst (λ n. OfKind n u) (sym (ap (λ (p : Place). p.kind) e)) (of_kind u) in
    let n = ap (λ (p : Place). p.name) (e ∙ ap place_of o.1) in
    ap things.View (sym (thing_one o.0 j f (sym n))) ∙ sym o.1
one_thing (things.Object j) u d f e =
    let o : OfKind 5 u = subst (λ n. OfKind n u) (sym (ap (λ (p : Place). p.kind) e)) (of_kind u) in
    let n = ap (λ (p : Place). p.name) (e ∙ ap place_of o.1) in
    ap things.Object (sym (thing_one o.0 j f (sym n))) ∙ sym o.1
one_thing (things.Source j) u d f e =
    let o : OfKind 6 u = subst (λ n. OfKind n u) (sym (ap (λ (p : Place). p.kind) e)) (of_kind u) in
    let n = ap (λ (p : Place). p.name) (e ∙ ap place_of o.1) in
    ap things.Source (sym (thing_one o.0 j f (sym n))) ∙ sym o.1
