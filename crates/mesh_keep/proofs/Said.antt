-- Records in order say a world exactly where they hold it.
use Rattle.std.proofs.Common.{◌≡◌, ℕ, ◌⊎◌, inl, inr, zero, suc, Bool, true, false, if◌then◌else◌, List, [], ◌∷◌, Some, None, refl, sym, ap, subst, ◌∙◌, arith}
use Rattle.std.specs.Prelude.{◌↔◌, not}
use Rattle.std.specs.List.{list_all}
use Rattle.std.specs.declared.option.Option.{Option}
use Rattle.std.proofs.lemmas.Map.Lookups.{exact_bytes}
use Rattle.mesh_list.specs.Keyed.{ascends}
use Rattle.mesh_base_values.specs.declared.values.Name.{Name}
use Rattle.mesh_base_values.specs.Names.{name_cmp, text_cmp}
use Rattle.mesh_base_values.specs.NameOrder.{names_exact, names_total, texts_total}
use Rattle.mesh_base.specs.declared.jobs.Input.{Input}
use Rattle.mesh_base.specs.declared.snapshots.Env.{Env}
use Rattle.mesh_base.specs.declared.snapshots.Ref.{Ref}
use Rattle.mesh_base.specs.declared.snapshots.Snapshot.{Snapshot}
use Rattle.mesh_base.specs.Keys.{env_name, input_name, ref_cmp, refs_exact, refs_total, snapshot_ref}
use Rattle.mesh_house_book.specs.declared.book.Book.{Book}
use Rattle.mesh_house_book.specs.declared.versions.Version.{Version}
use Rattle.mesh_house_book.specs.Changes.{version_object}
use Rattle.mesh_house.specs.declared.objects.Object.{Object}
use Rattle.mesh_house.specs.declared.world.ViewOf.{ViewOf}
use Rattle.mesh_house.specs.declared.world.World.{World}
use Rattle.mesh_house.specs.Objects.{is_physical, object_name}
use Rattle.mesh_house.specs.World.{view_name}
use Rattle.mesh_canon_words.specs.Words.{◌>>=◌}
use Rattle.mesh_canon_reading.proofs.Exact.{some_is}
use Rattle.mesh_canon_reading.proofs.Steps.{bound}
use Rattle.mesh_keep_records.specs.declared.book_records.BookHead.{BookHead}
use Rattle.mesh_keep_records.specs.Keys.{env_key, head_key, snapshot_key, thing_key}
use Rattle.mesh_keep_records.specs.reading.Reading.{env_in, head_in, object_in, snapshot_in, source_in, version_in, view_in}
use Rattle.mesh_keep_records.proofs.reading.Read.{env_read, head_read, object_read, snapshot_read, source_read, version_read, view_read}
use Rattle.mesh_keep.specs.declared.kept.Kept.{Kept}
use Rattle.mesh_keep.specs.Holds.{Holds, IsEnv, IsHead, IsKey, IsListed, IsObject, IsSnapshot, IsSource, IsVersion, IsView, Keeps, Knows, all_known, head_of}
use Rattle.mesh_keep.specs.Places.{body_at, kept_place, place_cmp}
use Rattle.mesh_keep.specs.Said.{book_said, envs_said, head_said, known_world, objects_said, snapshots_said, sources_said, versions_said, views_said, world_of}
use Rattle.mesh_keep.proofs.Names.{digest_of, env_named, env_one, object_named, snapshot_named, snapshot_one, source_named, thing_one, version_named, view_named}
use Rattle.mesh_keep.proofs.Things.{HoldsKind, kind_holds}

grouped : {A B C D : Type 0} → (A ↔ (B × C × D)) → (A ↔ (B × (C × D)))
grouped iff = (λ a. let h = iff.0 a in (h.0, (h.1, h.2)), λ h. iff.1 (h.0, h.1.0, h.1.1))

-- the names that each kind has
abbrev ref_key : Ref → List ℕ
ref_key k = snapshot_key k.name k.fingerprint

-- a list of each kind, said exactly where it is held
snapshots_hold : (kept : List Kept) (xs : List Snapshot) → ascends place_cmp kept_place kept ≡ true → (snapshots_said kept ≡ Some xs) ↔ HoldsKind ref_cmp snapshot_ref ref_key (λ s. true) IsSnapshot 1 kept xs
snapshots_hold kept xs up =
    kind_holds ref_cmp refs_total refs_exact snapshot_ref ref_key snapshot_in (λ s. true) IsSnapshot (λ t x. grouped (snapshot_read t x))
    (λ t x k f h e. snapshot_one k (snapshot_ref x) (digest_of x h.0) (snapshot_named t x f h) e) 1 kept xs up

versions_hold : (kept : List Kept) (xs : List Version) → ascends place_cmp kept_place kept ≡ true → (versions_said kept ≡ Some xs) ↔ HoldsKind name_cmp version_object thing_key (λ v. true) IsVersion 2 kept xs
versions_hold kept xs up =
    kind_holds name_cmp names_total names_exact version_object thing_key version_in (λ v. true) IsVersion (λ t x. grouped (version_read t x))
    (λ t x k f h e. thing_one k x.object (version_named t x f h) e) 2 kept xs up

envs_hold : (kept : List Kept) (xs : List Env) → ascends place_cmp kept_place kept ≡ true → (envs_said kept ≡ Some xs) ↔ HoldsKind text_cmp env_name env_key (λ e. true) IsEnv 3 kept xs
envs_hold kept xs up =
    kind_holds text_cmp texts_total exact_bytes env_name env_key env_in (λ e. true) IsEnv (λ t x. grouped (env_read t x))
    (λ t x k f h e. env_one k x.name (env_named t x f h) e) 3 kept xs up

views_hold : (kept : List Kept) (xs : List ViewOf) → ascends place_cmp kept_place kept ≡ true → (views_said kept ≡ Some xs) ↔ HoldsKind name_cmp view_name thing_key (λ v. true) IsView 4 kept xs
views_hold kept xs up =
    kind_holds name_cmp names_total names_exact view_name thing_key view_in (λ v. true) IsView view_read
    (λ t x k f h e. thing_one k x.view (view_named t x f h) e) 4 kept xs up

objects_hold : (kept : List Kept) (xs : List Object) → ascends place_cmp kept_place kept ≡ true → (objects_said kept ≡ Some xs) ↔ HoldsKind name_cmp object_name thing_key (λ o. is_physical o.name) IsObject 5 kept xs
objects_hold kept xs up =
    kind_holds name_cmp names_total names_exact object_name thing_key object_in (λ o. is_physical o.name) IsObject (λ t x. grouped (object_read t x))
    (λ t x k f h e. thing_one k x.name (object_named t x f h) e) 5 kept xs up

sources_hold : (kept : List Kept) (xs : List Input) → ascends place_cmp kept_place kept ≡ true → (sources_said kept ≡ Some xs) ↔ HoldsKind name_cmp input_name thing_key (λ s. not (is_physical s.name)) IsSource 6 kept xs
sources_hold kept xs up =
    kind_holds name_cmp names_total names_exact input_name thing_key source_in (λ s. not (is_physical s.name)) IsSource (λ t x. grouped (source_read t x))
    (λ t x k f h e. thing_one k x.name (source_named t x f h) e) 6 kept xs up

head_holds : (b : Option (List ℕ)) (h : BookHead) → ((b >>= head_in) ≡ Some h) ↔ Keeps IsHead b (Some h)
head_holds None h = (λ e. absurd cc, λ k. absurd k)
head_holds (Some t) h = grouped (head_read t h)

-- what a world is made of, kind by kind
record Says (kept : List Kept) (w : World) : Type 0 where
  head : head_said kept ≡ Some (head_of w.book)
  snapshots : snapshots_said kept ≡ Some w.book.snapshots
  versions : versions_said kept ≡ Some w.book.versions
  environments : envs_said kept ≡ Some w.book.environments
  views : views_said kept ≡ Some w.views
  objects : objects_said kept ≡ Some w.objects
  sources : sources_said kept ≡ Some w.sources

abbrev book_of : BookHead → List Snapshot → List Version → List Env → Book
book_of h ss vs es = record { version = h.version; moment = h.moment; snapshots = ss; versions = vs; environments = es }

abbrev world_with : Book → List ViewOf → List Object → List Input → World
world_with b vs os ss = record { sources = ss; objects = os; views = vs; book = b }

book_parts : (kept : List Kept) (b : Book) (h : BookHead) (ss : List Snapshot) (vs : List Version) (es : List Env)
    → head_said kept ≡ Some h → snapshots_said kept ≡ Some ss → versions_said kept ≡ Some vs → envs_said kept ≡ Some es → ◌≡◌ {A = Option Book} (Some (book_of h ss vs es)) (Some b)
    → (head_said kept ≡ Some (head_of b)) × (snapshots_said kept ≡ Some b.snapshots) × (versions_said kept ≡ Some b.versions) × (envs_said kept ≡ Some b.environments)
book_parts kept b h ss vs es p q r t e =
    let is : book_of h ss vs es ≡ b = some_is (book_of h ss vs es) b e in (
      p ∙ ap (λ (x : Book). Some (head_of x)) is,
      q ∙ ap (λ (x : Book). Some x.snapshots) is,
      r ∙ ap (λ (x : Book). Some x.versions) is,
      t ∙ ap (λ (x : Book). Some x.environments) is,
    )

book_says : (kept : List Kept) (b : Book) → book_said kept ≡ Some b
    → (head_said kept ≡ Some (head_of b)) × (snapshots_said kept ≡ Some b.snapshots) × (versions_said kept ≡ Some b.versions) × (envs_said kept ≡ Some b.environments)
book_says kept b e =
    let h = bound (head_said kept) (λ (x : BookHead). snapshots_said kept >>= λ ss. versions_said kept >>= λ vs. envs_said kept >>= λ es. Some (book_of x ss vs es)) b e in
    let ss = bound (snapshots_said kept) (λ (x : List Snapshot). versions_said kept >>= λ vs. envs_said kept >>= λ es. Some (book_of h.0 x vs es)) b h.2 in
    let vs = bound (versions_said kept) (λ (x : List Version). envs_said kept >>= λ es. Some (book_of h.0 ss.0 x es)) b ss.2 in
    let es = bound (envs_said kept) (λ (x : List Env). Some (book_of h.0 ss.0 vs.0 x)) b vs.2 in
    book_parts kept b h.0 ss.0 vs.0 es.0 h.1 ss.1 vs.1 es.1 es.2

world_parts : (kept : List Kept) (w : World) (b : Book) (vs : List ViewOf) (os : List Object) (ss : List Input)
    → book_said kept ≡ Some b → views_said kept ≡ Some vs → objects_said kept ≡ Some os → sources_said kept ≡ Some ss → ◌≡◌ {A = Option World} (Some (world_with b vs os ss)) (Some w) → Says kept w
world_parts kept w b vs os ss p q r t e =
    let is : world_with b vs os ss ≡ w = some_is (world_with b vs os ss) w e in
    let says = book_says kept w.book (p ∙ ap (λ (x : World). Some x.book) is) in
    record {
      head = says.0;
      snapshots = says.1;
      versions = says.2;
      environments = says.3;
      views = q ∙ ap (λ (x : World). Some x.views) is;
      objects = r ∙ ap (λ (x : World). Some x.objects) is;
      sources = t ∙ ap (λ (x : World). Some x.sources) is;
    }

world_says : (kept : List Kept) (w : World) → known_world kept ≡ Some w → Says kept w
unfolding known_world
world_says kept w e =
    let b = bound (book_said kept) (λ (x : Book). views_said kept >>= λ vs. objects_said kept >>= λ os. sources_said kept >>= λ ss. Some (world_with x vs os ss)) w e in
    let vs = bound (views_said kept) (λ (x : List ViewOf). objects_said kept >>= λ os. sources_said kept >>= λ ss. Some (world_with b.0 x os ss)) w b.2 in
    let os = bound (objects_said kept) (λ (x : List Object). sources_said kept >>= λ ss. Some (world_with b.0 vs.0 x ss)) w vs.2 in
    let ss = bound (sources_said kept) (λ (x : List Input). Some (world_with b.0 vs.0 os.0 x)) w os.2 in
    world_parts kept w b.0 vs.0 os.0 ss.0 b.1 vs.1 os.1 ss.1 ss.2

says_world : (kept : List Kept) (w : World) → Says kept w → known_world kept ≡ Some w
unfolding known_world
says_world kept w s =
    let book : book_said kept ≡ Some w.book =
    ap (λ o. o >>= λ h. snapshots_said kept >>= λ ss. versions_said kept >>= λ vs. envs_said kept >>= λ es. Some (book_of h ss vs es)) s.head
    ∙ ap (λ o. o >>= λ ss. versions_said kept >>= λ vs. envs_said kept >>= λ es. Some (book_of (head_of w.book) ss vs es)) s.snapshots
    ∙ ap (λ o. o >>= λ vs. envs_said kept >>= λ es. Some (book_of (head_of w.book) w.book.snapshots vs es)) s.versions
    ∙ ap (λ o. o >>= λ es. Some (book_of (head_of w.book) w.book.snapshots w.book.versions es)) s.environments in
    ap (λ o. o >>= λ b. views_said kept >>= λ vs. objects_said kept >>= λ os. sources_said kept >>= λ ss. Some (world_with b vs os ss)) book
    ∙ ap (λ o. o >>= λ vs. objects_said kept >>= λ os. sources_said kept >>= λ ss. Some (world_with w.book vs os ss)) s.views
    ∙ ap (λ o. o >>= λ os. sources_said kept >>= λ ss. Some (world_with w.book w.views os ss)) s.objects
    ∙ ap (λ o. o >>= λ ss. Some (world_with w.book w.views w.objects ss)) s.sources

-- the names of a kind, from those of all kinds and to them
which : (kind : ℕ) → IsListed kind → (kind ≡ 1) ⊎ ((kind ≡ 2) ⊎ ((kind ≡ 3) ⊎ ((kind ≡ 4) ⊎ ((kind ≡ 5) ⊎ (kind ≡ 6)))))
which zero (low, high) = absurd (omega arith)
which (suc zero) h = inl (omega arith)
which (suc (suc zero)) h = inr (inl (omega arith))
which (suc (suc (suc zero))) h = inr (inr (inl (omega arith)))
which (suc (suc (suc (suc zero)))) h = inr (inr (inr (inl (omega arith))))
which (suc (suc (suc (suc (suc zero))))) h = inr (inr (inr (inr (inl (omega arith)))))
which (suc (suc (suc (suc (suc (suc zero)))))) h = inr (inr (inr (inr (inr (omega arith)))))
which (suc (suc (suc (suc (suc (suc (suc n))))))) (low, high) = absurd (omega arith)

abbrev IsThing : List ℕ → Type 0
IsThing n = (k : Name) × (n ≡ thing_key k)

abbrev IsRef : List ℕ → Type 0
IsRef n = (k : Ref) × (n ≡ ref_key k)

abbrev IsText : List ℕ → Type 0
IsText n = (k : List ℕ) × (n ≡ env_key k)

a_key : (kind : ℕ) (n : List ℕ) → IsListed kind → (kind ≡ 1 → IsRef n) → (kind ≡ 3 → IsText n) → ((kind ≡ 2) ⊎ ((kind ≡ 4) ⊎ ((kind ≡ 5) ⊎ (kind ≡ 6))) → IsThing n) → IsKey kind n
a_key kind n listed ref text thing = at (which kind listed)
  where
    of_thing : (kind ≡ 2) ⊎ ((kind ≡ 4) ⊎ ((kind ≡ 5) ⊎ (kind ≡ 6))) → IsKey kind n
    of_thing o = let t = thing o in inr (inr (inr (o, t.0, t.1)))

    at : (kind ≡ 1) ⊎ ((kind ≡ 2) ⊎ ((kind ≡ 3) ⊎ ((kind ≡ 4) ⊎ ((kind ≡ 5) ⊎ (kind ≡ 6))))) → IsKey kind n
    at (inl e) = let r = ref e in inr (inl (e, r.0, r.1))
    at (inr (inl e)) = of_thing (inl e)
    at (inr (inr (inl e))) = let t = text e in inr (inr (inl (e, t.0, t.1)))
    at (inr (inr (inr (inl e)))) = of_thing (inr (inl e))
    at (inr (inr (inr (inr (inl e))))) = of_thing (inr (inr (inl e)))
    at (inr (inr (inr (inr (inr e))))) = of_thing (inr (inr (inr e)))

other_kinds : (kind m : ℕ) → (kind ≡ 2) ⊎ ((kind ≡ 4) ⊎ ((kind ≡ 5) ⊎ (kind ≡ 6))) → (m ≡ 1) ⊎ (m ≡ 3) → kind ≡ m → ⊥
other_kinds kind m (inl e) (inl f) g = omega arith
other_kinds kind m (inl e) (inr f) g = omega arith
other_kinds kind m (inr (inl e)) (inl f) g = omega arith
other_kinds kind m (inr (inl e)) (inr f) g = omega arith
other_kinds kind m (inr (inr (inl e))) (inl f) g = omega arith
other_kinds kind m (inr (inr (inl e))) (inr f) g = omega arith
other_kinds kind m (inr (inr (inr e))) (inl f) g = omega arith
other_kinds kind m (inr (inr (inr e))) (inr f) g = omega arith

key_ref : (kind : ℕ) (n : List ℕ) → kind ≡ 1 → IsKey kind n → IsRef n
key_ref kind n is (inl (e, f)) = absurd (omega arith)
key_ref kind n is (inr (inl (e, k, f))) = (k, f)
key_ref kind n is (inr (inr (inl (e, k, f)))) = absurd (omega arith)
key_ref kind n is (inr (inr (inr (o, k, f)))) = absurd (other_kinds kind 1 o (inl refl) is)

key_text : (kind : ℕ) (n : List ℕ) → kind ≡ 3 → IsKey kind n → IsText n
key_text kind n is (inl (e, f)) = absurd (omega arith)
key_text kind n is (inr (inl (e, k, f))) = absurd (omega arith)
key_text kind n is (inr (inr (inl (e, k, f)))) = (k, f)
key_text kind n is (inr (inr (inr (o, k, f)))) = absurd (other_kinds kind 3 o (inr refl) is)

key_thing : (kind : ℕ) (n : List ℕ) → (kind ≡ 0 → ⊥) → (kind ≡ 1 → ⊥) → (kind ≡ 3 → ⊥) → IsKey kind n → IsThing n
key_thing kind n zeroth first third (inl (e, f)) = absurd (zeroth e)
key_thing kind n zeroth first third (inr (inl (e, k, f))) = absurd (first e)
key_thing kind n zeroth first third (inr (inr (inl (e, k, f)))) = absurd (third e)
key_thing kind n zeroth first third (inr (inr (inr (o, k, f)))) = (k, f)

all_true : {A : Type 0} (xs : List A) → list_all (λ (x : A). true) xs ≡ true
all_true [] = refl
all_true (x ∷ xs) = all_true xs

module _ (kept : List Kept) (w : World) (up : ascends place_cmp kept_place kept ≡ true) where
  knows : Says kept w → Knows kept w
  knows s =
      let snapshots = (snapshots_hold kept w.book.snapshots up).0 s.snapshots in
      let versions = (versions_hold kept w.book.versions up).0 s.versions in
      let environments = (envs_hold kept w.book.environments up).0 s.environments in
      let views = (views_hold kept w.views up).0 s.views in
      let objects = (objects_hold kept w.objects up).0 s.objects in
      let sources = (sources_hold kept w.sources up).0 s.sources in
      record {
        ordered = record {
          snapshots = snapshots.up;
          versions = versions.up;
          environments = environments.up;
          views = views.up;
          objects = objects.up;
          sources = sources.up;
          physical = objects.all;
          plain = sources.all;
        };
        head = (head_holds (body_at kept 0 head_key) (head_of w.book)).0 s.head;
        snapshots = snapshots.keeps;
        versions = versions.keeps;
        environments = environments.keeps;
        views = views.keeps;
        objects = objects.keeps;
        sources = sources.keeps;
        names = λ kind n b is listed.
            let at = λ (m : ℕ) (e : kind ≡ m). subst (λ (i : ℕ). body_at kept i n ≡ Some b) e is in
            a_key kind n listed (λ e. snapshots.named n b (at 1 e)) (λ e. environments.named n b (at 3 e)) (λ o. elim o [
              | inl e ↦ versions.named n b (at 2 e)
              | inr (inl e) ↦ views.named n b (at 4 e)
              | inr (inr (inl e)) ↦ objects.named n b (at 5 e)
              | inr (inr (inr e)) ↦ sources.named n b (at 6 e)
            ]);
      }

  thing_named : Knows kept w → (kind : ℕ) → IsListed kind → (kind ≡ 1 → ⊥) → (kind ≡ 3 → ⊥) → (n b : List ℕ) → body_at kept kind n ≡ Some b → IsThing n
  thing_named k kind listed first third n b is = key_thing kind n (λ e. let low = listed.0 in omega arith) first third (k.names kind n b is listed)

  says : Knows kept w → Says kept w
  says k = record {
    head = (head_holds (body_at kept 0 head_key) (head_of w.book)).1 k.head;
    snapshots = (snapshots_hold kept w.book.snapshots up).1 (record {
      up = k.ordered.snapshots;
      all = all_true w.book.snapshots;
      keeps = k.snapshots;
      named = λ n b is. key_ref 1 n refl (k.names 1 n b is (omega arith, omega arith));
    });
    versions = (versions_hold kept w.book.versions up).1 (record {
      up = k.ordered.versions;
      all = all_true w.book.versions;
      keeps = k.versions;
      named = thing_named k 2 (omega arith, omega arith) (λ e. omega arith) (λ e. omega arith);
    });
    environments = (envs_hold kept w.book.environments up).1 (record {
      up = k.ordered.environments;
      all = all_true w.book.environments;
      keeps = k.environments;
      named = λ n b is. key_text 3 n refl (k.names 3 n b is (omega arith, omega arith));
    });
    views = (views_hold kept w.views up).1 (record {
      up = k.ordered.views;
      all = all_true w.views;
      keeps = k.views;
      named = thing_named k 4 (omega arith, omega arith) (λ e. omega arith) (λ e. omega arith);
    });
    objects = (objects_hold kept w.objects up).1 (record {
      up = k.ordered.objects;
      all = k.ordered.physical;
      keeps = k.objects;
      named = thing_named k 5 (omega arith, omega arith) (λ e. omega arith) (λ e. omega arith);
    });
    sources = (sources_hold kept w.sources up).1 (record {
      up = k.ordered.sources;
      all = k.ordered.plain;
      keeps = k.sources;
      named = thing_named k 6 (omega arith, omega arith) (λ e. omega arith) (λ e. omega arith);
    });
  }

pub known_is : (kept : List Kept) (w : World) → ascends place_cmp kept_place kept ≡ true → (known_world kept ≡ Some w) ↔ Knows kept w
known_is kept w up = (λ e. knows kept w up (world_says kept w e), λ k. says_world kept w (says kept w up k))

pub world_is : (kept : List Kept) (w : World) → ascends place_cmp kept_place kept ≡ true → (world_of kept ≡ Some w) ↔ Holds kept w
unfolding world_of
world_is kept w up = at (all_known kept) refl
  where
    at : (b : Bool) → all_known kept ≡ b → ((if b then known_world kept else None) ≡ Some w) ↔ Holds kept w
    at true h = (λ e. record { known = (known_is kept w up).0 e; alone = h }, λ x. (known_is kept w up).1 x.known)
    at false h = (λ e. absurd cc, λ x. absurd (let clash : true ≡ false = sym x.alone ∙ h in cc))
