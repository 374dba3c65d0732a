-- A world in which the first models of a plan are put, and the next one.
use Rattle.std.proofs.Common.{◌≡◌, ℕ, suc, ◌<◌, Bool, true, false, cond, nat_eq, ◌⊎◌, inl, inr, List, refl, ap, sym, ◌∙◌, subst, arith, eqb-true}
use Rattle.std.specs.List.{Contains, slice_get}
use Rattle.std.specs.Cmp.{Equal-is}
use Rattle.std.specs.Ordering.{is_eq}
use Rattle.std.specs.declared.option.Option.{Option}
use Rattle.std.specs.declared.option.Option.TheVariants.{None, Some}
use Rattle.std.proofs.lemmas.Bool.Decides.{nat_tests}
use Rattle.std.proofs.lemmas.Cmp.{tied_itself}
use Rattle.std.proofs.lemmas.Option.{get_or_from_slice_get, slice_get_within}
use Rattle.mesh_base_values.specs.Names.{name_cmp}
use Rattle.mesh_base_values.specs.declared.kinds.Kind.{Kind}
use Rattle.mesh_base_values.specs.declared.kinds.Kind.TheVariants.{View}
use Rattle.mesh_base_values.specs.declared.values.Name.{Name}
use Rattle.mesh_base.specs.Keys.{ref_cmp, refs_exact, refs_total, snapshot_ref}
use Rattle.mesh_base.specs.declared.definitions.Own.{Own}
use Rattle.mesh_base.specs.declared.forgets.Restate.{Restate}
use Rattle.mesh_base.specs.declared.snapshots.Node.{Node}
use Rattle.mesh_base.specs.declared.snapshots.Ref.{Ref}
use Rattle.mesh_base.specs.declared.snapshots.Snapshot.{Snapshot}
use Rattle.mesh_base.specs.rules.Proper.{is_proper}
use Rattle.mesh_house_book.specs.Changes.{put_snapshot}
use Rattle.mesh_house_book.specs.WellFormed.{is_snapshot_fit, is_well_formed_book, snapshot_at}
use Rattle.mesh_house_book.specs.declared.versions.Version.{Version}
use Rattle.mesh_spec_model.specs.Closures.{closures, own_of}
use Rattle.mesh_spec_model.specs.Horizons.{Clock, Shows}
use Rattle.mesh_house.specs.declared.world.Change.TheVariants.{PutSnapshot}
use Rattle.mesh_house.specs.declared.world.World.{World}
use Rattle.mesh_house.specs.Step.{step}
use Rattle.mesh_house.specs.World.{version_of}
use Rattle.mesh_spec_changes.specs.listed.Closing.{IsAlike, IsSnapshot, closing}
use Rattle.mesh_spec_changes.proofs.listed.Books.{is_its_own, its_ref}
use Rattle.mesh_spec_changes.proofs.listed.Closings.{closings_stay}
use Rattle.mesh_spec_changes.specs.reuse.Cores.{IsTwin, core}
use Rattle.mesh_spec_changes.specs.due.Parts.{Parts, same_name}
use Rattle.mesh_spec_changes.specs.due.Plans.{Planned}
use Rattle.mesh_spec_changes.specs.Changes.{Plan, planned_ref, snapshot_of}
use Rattle.mesh_spec_changes.specs.Planning.{IsPlan}
use Rattle.mesh_plan_due.proofs.Rows.{distinct, itself, one_place}
use Rattle.mesh_law_reuse.specs.Shared.{SharesWithTwins}
use Rattle.mesh_law_reuse.proofs.Single.{single}
use Rattle.mesh_spec_promise.specs.Sound.{HasEachOnce, IsTableSound, Sound}
use Rattle.mesh_spec_promise.proofs.Tables.{closed_own}
use Rattle.mesh_law_changes.proofs.Putting.{snapshot_put}
use Rattle.mesh_law_changes.proofs.SnapshotPut.{IsAgain}
use Rattle.mesh_law_changes.specs.along.Ready.{put_version}
use Rattle.mesh_law_steps.proofs.puts.Fitting.{closing_put, fit_put}
use Rattle.mesh_law_steps.proofs.puts.Models.{closure_at, its_closure, node_at}
use Rattle.mesh_law_steps.proofs.puts.Objects.{known_again, new_twin, object_named}
use Rattle.mesh_law_steps.proofs.puts.Once.{each_once}
use Rattle.mesh_law_steps.proofs.puts.Putting.{snapshot_after, version_after}
use Rattle.mesh_law_steps.proofs.puts.Tables.{table_twin, twin_own}

-- a place up to another one that is not that one
in_front : (j n : ℕ) → j < suc n → nat_eq j n ≡ false → j < n
in_front j n l h = grind (arith, nat_tests, l, h)

module _ (clock : Clock) (y : Parts) (w : World) (nodes : List Node) (restate : Option Restate) (plan : Plan) (well : is_well_formed_book w.book ≡ true) (proper : is_proper nodes ≡ true)
    (is : IsPlan clock w.book nodes restate plan) (shared : SharesWithTwins w.book) where
  abbrev models : List Planned
  models = plan.models

  abbrev new : Planned → Snapshot
  new p = snapshot_of plan.moment plan.models p

  -- a snapshot is that of one of the first models
  abbrev pub IsOfFirst : ℕ → Snapshot → Type 0
  IsOfFirst n s = (j : ℕ) × (q : Planned) × (j < n) × (slice_get models j ≡ Some q) × (s ≡ new q)

  -- the first models of the plan are put into the book, and nothing else is done
  pub record IsReached (opened : World) (n : ℕ) (v : World) : Type 0 where
    pub sound : Sound y v
    pub version : v.book.version ≡ 2
    pub moment : v.book.moment ≡ opened.book.moment
    pub environments : v.book.environments ≡ w.book.environments
    pub sources : v.sources ≡ w.sources
    pub kept : (r : Ref) (old : Snapshot) → snapshot_at w.book.snapshots r ≡ Some old → (s : Snapshot) × (snapshot_at v.book.snapshots r ≡ Some s) × IsAgain old s
    pub each : (s : Snapshot) → IsSnapshot v.book.snapshots s → IsSnapshot w.book.snapshots s ⊎ IsOfFirst n s
    pub put : (j : ℕ) → j < n → (q : Planned) → slice_get models j ≡ Some q → snapshot_at v.book.snapshots (planned_ref q) ≡ Some (new q)
    pub had : (name : Name) → (version_of v.book name ≡ version_of w.book name) ⊎ (version_of v.book name ≡ Some (put_version (version_of w.book name) name))
    pub versions : (j : ℕ) → j < n → (q : Planned) → slice_get models j ≡ Some q → version_of v.book q.object ≡ Some (put_version (version_of w.book q.object) q.object)

  -- models of one name are one
  one_model : (i j : ℕ) (p q : Planned) → slice_get models i ≡ Some p → slice_get models j ≡ Some q → p.node.own.name ≡ q.node.own.name → p ≡ q
  one_model i j p q e f same =
      let tests : same_name q.node.own.name p.node.own.name ≡ nat_eq i j =
      one_place nodes (distinct nodes proper) i j p.node q.node (node_at nodes proper models is.models is.closed i p e) (node_at nodes proper models is.models is.closed j q f) in
      let place : nat_eq i j ≡ true = sym tests ∙ ap (λ x. same_name x p.node.own.name) (sym same) ∙ itself p.node.own.name in
      let both : Some p ≡ Some q = sym e ∙ ap (slice_get models) (eqb-true i j place) ∙ f in
      cc

  ref_is : (q r : Ref) → is_eq (ref_cmp q r) ≡ true → q ≡ r
  ref_is q r e = refs_exact q r ((Equal-is (ref_cmp q r)).0 e)

  same_ref : (q : Ref) → is_eq (ref_cmp q q) ≡ true
  same_ref q = (Equal-is (ref_cmp q q)).1 (tied_itself refs_total q)

  contained : {X : Type 0} (xs : List X) (i : ℕ) (x : X) → slice_get xs i ≡ Some x → Contains xs x
  contained xs i x e = (i, slice_get_within xs i x e, get_or_from_slice_get xs i x x e)

  module _ (opened : World) (n : ℕ) (v : World) (r : IsReached opened n v) (p : Planned) (e : slice_get models n ≡ Some p) where
    abbrev all : List Snapshot
    all = v.book.snapshots

    abbrev s : Snapshot
    s = new p

    abbrev next : World
    next = step v (PutSnapshot s)

    abbrev more : List Snapshot
    more = (put_snapshot v.book s).snapshots

    found_after : (q : Ref) → snapshot_at more q ≡ cond (is_eq (ref_cmp (planned_ref p) q)) (Some s) (snapshot_at all q)
    found_after q = snapshot_after v.book s q

    -- the next model too is put then
    put_after : (j : ℕ) → j < suc n → (q : Planned) → slice_get models j ≡ Some q → snapshot_at more (planned_ref q) ≡ Some (new q)
    put_after j l q f = go (is_eq (ref_cmp (planned_ref p) (planned_ref q))) refl (found_after (planned_ref q))
      where
        other : is_eq (ref_cmp (planned_ref p) (planned_ref q)) ≡ false → (c : Bool) → nat_eq j n ≡ c → snapshot_at all (planned_ref q) ≡ Some (new q)
        other g true h =
            let both : Some p ≡ Some q = sym e ∙ ap (slice_get models) (sym (eqb-true j n h)) ∙ f in
            let same : p ≡ q = cc in
            let clash : true ≡ false = sym (same_ref (planned_ref p)) ∙ ap (λ x. is_eq (ref_cmp (planned_ref p) (planned_ref x))) same ∙ g in
            absurd (cc)
        other g false h = r.put j (in_front j n l h) q f

        go : (c : Bool) → is_eq (ref_cmp (planned_ref p) (planned_ref q)) ≡ c → snapshot_at more (planned_ref q) ≡ cond c (Some s) (snapshot_at all (planned_ref q)) → snapshot_at more (planned_ref q) ≡ Some (new q)
        go true g h = h ∙ ap (λ x. Some (new x)) (one_model n j p q e f (ap (λ (k : Ref). k.name) (ref_is (planned_ref p) (planned_ref q) g)))
        go false g h = h ∙ other g (nat_eq j n) refl

    closes : closing more s ≡ p.closure
    closes = closing_put nodes proper models is.models is.closed plan.moment more n (λ j l q f. put_after j (omega (arith, l)) q f) n (omega arith) p e

    fit : is_snapshot_fit v.book.version all None s ≡ true
    fit = fit_put nodes proper models is.models is.closed plan.moment all n r.put n (omega arith) p e v.book.version r.version (object_named clock w.book nodes restate plan well proper is n p e)

    -- what is there of its reference is that again
    again : (old : Snapshot) → snapshot_at all (planned_ref p) ≡ Some old → IsAgain old s
    again old there = go (r.each old (is_its_own all (planned_ref p) old there))
      where
        ref : snapshot_ref old ≡ planned_ref p
        ref = its_ref all (planned_ref p) old there

        go : IsSnapshot w.book.snapshots old ⊎ IsOfFirst n old → IsAgain old s
        go (inl before) = known_again clock w.book nodes restate plan well proper is n p e old (ap (snapshot_at w.book.snapshots) (sym ref) ∙ before)
        go (inr (j, q, l, f, is_q)) =
            let one : q ≡ p = one_model j n q p f e (ap (λ (u : Snapshot). u.name) (sym is_q) ∙ ap (λ (k : Ref). k.name) ref) in
            let same : s ≡ old = ap new (sym one) ∙ sym is_q in
            record { own = ap (λ (u : Snapshot). u.own) same; parents = ap (λ (u : Snapshot). u.parents) same; rank = ap (λ (u : Snapshot). u.rank) same; object = ap (λ (u : Snapshot). u.object) same }

    alike : (q : Ref) (old : Snapshot) → snapshot_at w.book.snapshots q ≡ Some old → IsAlike all q old
    alike q old at = let (u, known, a) = r.kept q old at in record { snapshot = u; known = known; own = a.own; parents = a.parents; rank = a.rank }

    -- where nothing is, what has its object is a twin
    module _ (none : snapshot_at all (planned_ref p) ≡ None) where
      none_before : snapshot_at w.book.snapshots (planned_ref p) ≡ None
      none_before = go (snapshot_at w.book.snapshots (planned_ref p)) refl
        where
          go : (o : Option Snapshot) → snapshot_at w.book.snapshots (planned_ref p) ≡ o → o ≡ None
          go None f = refl
          go (Some old) f = let (u, known, a) = r.kept (planned_ref p) old f in absurd (let clash : None ≡ Some u = sym none ∙ known in cc)

      its_own : own_of p.closure ≡ p.node.own
      its_own = let (parents, same, are) = its_closure nodes proper models is.models is.closed n p e in ap own_of (sym same)

      twins : (u : Snapshot) → IsSnapshot all u → u.object ≡ p.object → (u.name ≡ p.node.own.name) × IsTwin (closing all u) (closing more s) × ¬ (u.own.kind ≡ View)
      twins u known share = go (r.each u known)
        where
          go : IsSnapshot w.book.snapshots u ⊎ IsOfFirst n u → (u.name ≡ p.node.own.name) × IsTwin (closing all u) (closing more s) × ¬ (u.own.kind ≡ View)
          go (inl before) =
              let (name, twin, table) = new_twin clock w.book nodes restate plan well proper is n p e shared none_before u before share in
              let own : u.own ≡ p.node.own = sym (ap own_of (closed_own w.book.snapshots u.rank u).1) ∙ twin_own (closing w.book.snapshots u) p.closure twin ∙ its_own in
              (name, ap core (closings_stay w.book well all alike u u before refl refl refl) ∙ twin ∙ ap core (sym closes), λ view. table (ap (λ (o : Own). o.kind) (sym own) ∙ view))
          go (inr (j, q, l, f, is_q)) =
              let object : q.object ≡ p.object = ap (λ (x : Snapshot). x.object) (sym is_q) ∙ share in
              let one : q ≡ p = single clock w.book nodes restate plan well proper is shared q p (contained models j q f) (contained models n p e) object in
              let there : snapshot_at all (planned_ref p) ≡ Some (new q) = ap (λ x. snapshot_at all (planned_ref x)) (sym one) ∙ r.put j l q f in
              let clash : None ≡ Some (new q) = sym none ∙ there in
              absurd (cc)

      once : HasEachOnce (closing more s)
      once = subst HasEachOnce (sym closes) (each_once nodes proper p.closure (contained (closures nodes) n p.closure (closure_at nodes proper models is.models is.closed n p e)))

      table : (other : Clock) → Shows other v.book.moment → (x : Version) → version_of v.book p.object ≡ Some x → IsTableSound other y next s x s.own.kind
      table other shows x at =
          let u = r.sound.book.versions p.object x at in
          let (name, twin, tabled) = twins u.snapshot u.kept u.uses in
          let own : u.snapshot.own ≡ p.node.own =
          sym (ap own_of (closed_own all u.snapshot.rank u.snapshot).1) ∙ twin_own (closing all u.snapshot) (closing more s) twin ∙ ap own_of (closed_own more s.rank s).1 in
          subst (λ (k : Kind). IsTableSound other y next s x k) (ap (λ (o : Own). o.kind) own)
          (table_twin y v s u.snapshot own u.uses twin other x u.snapshot.own.kind (r.sound.tables other shows u.snapshot u.kept x (ap (version_of v.book) u.uses ∙ at)))

    sound_after : Sound y next
    sound_after = snapshot_put y v r.sound s fit (λ old there. let a = again old there in (a.own, a.parents, a.rank, a.object)) once twins table

    kept_after : (q : Ref) (old : Snapshot) → snapshot_at w.book.snapshots q ≡ Some old → (u : Snapshot) × (snapshot_at more q ≡ Some u) × IsAgain old u
    kept_after q old at = go (is_eq (ref_cmp (planned_ref p) q)) refl (found_after q)
      where
        go : (c : Bool) → is_eq (ref_cmp (planned_ref p) q) ≡ c → snapshot_at more q ≡ cond c (Some s) (snapshot_at all q) → (u : Snapshot) × (snapshot_at more q ≡ Some u) × IsAgain old u
        go true g h = (s, h, known_again clock w.book nodes restate plan well proper is n p e old (ap (snapshot_at w.book.snapshots) (ref_is (planned_ref p) q g) ∙ at))
        go false g h = let (u, known, a) = r.kept q old at in (u, h ∙ known, a)

    each_after : (u : Snapshot) → IsSnapshot more u → IsSnapshot w.book.snapshots u ⊎ IsOfFirst (suc n) u
    each_after u known = go (is_eq (ref_cmp (planned_ref p) (snapshot_ref u))) (sym (found_after (snapshot_ref u)) ∙ known)
      where
        later : IsSnapshot w.book.snapshots u ⊎ IsOfFirst n u → IsSnapshot w.book.snapshots u ⊎ IsOfFirst (suc n) u
        later (inl before) = inl before
        later (inr (j, q, l, f, is_q)) = inr (j, q, omega (arith, l), f, is_q)

        go : (c : Bool) → cond c (Some s) (snapshot_at all (snapshot_ref u)) ≡ Some u → IsSnapshot w.book.snapshots u ⊎ IsOfFirst (suc n) u
        go true h = inr (n, p, omega arith, e, (let same : s ≡ u = cc in sym same))
        go false h = later (r.each u h)

    had_after : (name : Name) → (version_of next.book name ≡ version_of w.book name) ⊎ (version_of next.book name ≡ Some (put_version (version_of w.book name) name))
    had_after name = go (is_eq (name_cmp p.object name)) (version_after v.book s name) (r.had name)
      where
        twice : (o : Option Version) → put_version (Some (put_version o name)) name ≡ put_version o name
        twice o = refl

        go : (c : Bool) → version_of next.book name ≡ cond c (Some (put_version (version_of v.book name) name)) (version_of v.book name)
            → (version_of v.book name ≡ version_of w.book name) ⊎ (version_of v.book name ≡ Some (put_version (version_of w.book name) name))
            → (version_of next.book name ≡ version_of w.book name) ⊎ (version_of next.book name ≡ Some (put_version (version_of w.book name) name))
        go true h (inl same) = inr (h ∙ ap (λ o. Some (put_version o name)) same)
        go true h (inr same) = inr (h ∙ ap (λ o. Some (put_version o name)) same)
        go false h (inl same) = inl (h ∙ same)
        go false h (inr same) = inr (h ∙ same)

    versions_after : (j : ℕ) → j < suc n → (q : Planned) → slice_get models j ≡ Some q → version_of next.book q.object ≡ Some (put_version (version_of w.book q.object) q.object)
    versions_after j l q f = go (nat_eq j n) refl
      where
        -- what the next one gives its object
        its : (name : Name) → is_eq (name_cmp p.object name) ≡ true → version_of next.book name ≡ Some (put_version (version_of w.book name) name)
        its name g = by_had (r.had name)
          where
            there : version_of next.book name ≡ Some (put_version (version_of v.book name) name)
            there = version_after v.book s name ∙ ap (λ c. cond c (Some (put_version (version_of v.book name) name)) (version_of v.book name)) g

            by_had : (version_of v.book name ≡ version_of w.book name) ⊎ (version_of v.book name ≡ Some (put_version (version_of w.book name) name)) → version_of next.book name ≡ Some (put_version (version_of w.book name) name)
            by_had (inl same) = there ∙ ap (λ o. Some (put_version o name)) same
            by_had (inr same) = there ∙ ap (λ o. Some (put_version o name)) same

        by_object : j < n → (c : Bool) → is_eq (name_cmp p.object q.object) ≡ c → version_of next.book q.object ≡ Some (put_version (version_of w.book q.object) q.object)
        by_object less true g = its q.object g
        by_object less false g = version_after v.book s q.object ∙ ap (λ c. cond c (Some (put_version (version_of v.book q.object) q.object)) (version_of v.book q.object)) g ∙ r.versions j less q f

        go : (c : Bool) → nat_eq j n ≡ c → version_of next.book q.object ≡ Some (put_version (version_of w.book q.object) q.object)
        go true g =
            let both : Some p ≡ Some q = sym e ∙ ap (slice_get models) (sym (eqb-true j n g)) ∙ f in
            its q.object (ap (λ (x : Planned). is_eq (name_cmp x.object q.object)) (let same : p ≡ q = cc in same) ∙ itself q.object)
        go false g = by_object (in_front j n l g) (is_eq (name_cmp p.object q.object)) refl

    pub reached_next : IsReached opened (suc n) next
    reached_next = record {
      sound = sound_after;
      version = r.version;
      moment = r.moment;
      environments = r.environments;
      sources = r.sources;
      kept = kept_after;
      each = each_after;
      put = put_after;
      had = had_after;
      versions = versions_after;
    }
