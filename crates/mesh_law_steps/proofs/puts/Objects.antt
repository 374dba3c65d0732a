-- The object of a planned model, and the snapshots of the book that have it.
use Rattle.std.proofs.Common.{◌≡◌, ℕ, suc, Bool, true, false, cond, not, ◌&&◌, ◌||◌, ◌⊎◌, inl, inr, List, [], ◌∷◌, map, refl, ap, sym, ◌∙◌, arith}
use Rattle.std.specs.List.{find, slice_get}
use Rattle.std.specs.Option.{option_map, option_or}
use Rattle.std.specs.declared.option.Option.{Option}
use Rattle.std.specs.declared.option.Option.TheVariants.{None, Some}
use Rattle.mesh_list.proofs.Ascends.{and_left, and_right}
use Rattle.mesh_base_values.specs.Names.{has_two_underscores}
use Rattle.mesh_base_values.specs.Picked.{same_text}
use Rattle.mesh_base_values.specs.declared.kinds.Kind.{Kind}
use Rattle.mesh_base_values.specs.declared.kinds.Kind.TheVariants.{View}
use Rattle.mesh_base_values.specs.declared.values.Name.{Name}
use Rattle.mesh_base.specs.Keys.{ref_cmp, snapshot_ref}
use Rattle.mesh_base.specs.declared.forgets.Restate.{Restate}
use Rattle.mesh_base.specs.declared.plans.Category.{Category}
use Rattle.mesh_base.specs.declared.plans.Category.TheVariants.{Unchanged, Added, Breaking, NonBreaking, IndirectBreaking, IndirectNonBreaking}
use Rattle.mesh_base.specs.declared.snapshots.Node.{Node}
use Rattle.mesh_base.specs.declared.snapshots.Ref.{Ref}
use Rattle.mesh_base.specs.declared.snapshots.Snapshot.{Snapshot}
use Rattle.mesh_base.specs.rules.Proper.{is_proper}
use Rattle.mesh_house_book.specs.declared.book.Book.{Book}
use Rattle.mesh_house_book.specs.WellFormed.{all_fit, is_moment, is_snapshot_fit, is_version, is_well_formed_book, snapshot_at}
use Rattle.mesh_spec_model.specs.Horizons.{Clock}
use Rattle.mesh_law_query.proofs.ReadColumns.{text_is}
use Rattle.mesh_spec_changes.specs.listed.Closing.{IsSnapshot, closing}
use Rattle.mesh_spec_changes.proofs.listed.Books.{is_its_own, its_ref}
use Rattle.mesh_spec_changes.specs.reuse.Cores.{IsTwin}
use Rattle.mesh_spec_changes.specs.due.Parts.{same_name}
use Rattle.mesh_spec_changes.specs.due.Plans.{Planned}
use Rattle.mesh_spec_changes.specs.due.Versions.{fresh, is_free, kept_object, stays, table_name}
use Rattle.mesh_spec_changes.specs.Changes.{Plan, parents_in, planned_ref, snapshot_of}
use Rattle.mesh_spec_changes.specs.Planning.{HasNoClash, HasObject, IsPlan, compared}
use Rattle.mesh_plan_due.proofs.Rows.{itself}
use Rattle.mesh_law_reuse.specs.Shared.{SharesWithTwins}
use Rattle.mesh_law_reuse.proofs.Given.{compared_is, given}
use Rattle.mesh_law_reuse.proofs.Known.{each_at, known_below}
use Rattle.mesh_law_changes.proofs.Rising.{each_keeps, found_passes}
use Rattle.mesh_law_changes.proofs.SnapshotGone.{snapshot_own}
use Rattle.mesh_law_changes.proofs.SnapshotPut.{IsAgain}

-- a fresh name is free, and is that of an object
fresh_is : (free : Name → Bool) (m : Name) (fingerprint : List ℕ) (ks : List ℕ) (object : Name) → find free (map (table_name m fingerprint) ks) ≡ Some object → (free object ≡ true) × (has_two_underscores object.schema ≡ true)
fresh_is free m fingerprint [] object e = absurd (cc)
fresh_is free m fingerprint (k ∷ ks) object e = go (free (table_name m fingerprint k)) refl e (fresh_is free m fingerprint ks object)
  where
    its : table_name m fingerprint k ≡ object → free (table_name m fingerprint k) ≡ true → (free object ≡ true) × (has_two_underscores object.schema ≡ true)
    its same f = (ap free (sym same) ∙ f, ap (λ (n : Name). has_two_underscores n.schema) (sym same))

    go : (b : Bool) → free (table_name m fingerprint k) ≡ b → cond b (Some (table_name m fingerprint k)) (find free (map (table_name m fingerprint) ks)) ≡ Some object
        → (find free (map (table_name m fingerprint) ks) ≡ Some object → (free object ≡ true) × (has_two_underscores object.schema ≡ true)) → (free object ≡ true) × (has_two_underscores object.schema ≡ true)
    go true f h rest = its (let same : table_name m fingerprint k ≡ object = cc in same) f
    go false f h rest = rest h

-- no view stays
not_view : (category : Category) (kind : Kind) → stays category kind ≡ true → ¬ (kind ≡ View)
not_view category kind h same = go category (ap (stays category) (sym same) ∙ h)
  where
    go : (category : Category) → stays category View ≡ true → ⊥
    go Unchanged k = absurd (cc)
    go Added k = absurd (cc)
    go Breaking k = absurd (cc)
    go NonBreaking k = absurd (cc)
    go IndirectBreaking k = absurd (cc)
    go IndirectNonBreaking k = absurd (cc)

-- an object's name has two underscores in its schema
recorded_object : (b : Book) → is_well_formed_book b ≡ true → (s : Snapshot) → IsSnapshot b.snapshots s → has_two_underscores s.object.schema ≡ true
recorded_object b well s known =
    let snapshots = and_left (all_fit (is_snapshot_fit b.version b.snapshots) None b.snapshots) _ (and_right (is_moment b.moment && is_version b.version) _ well) in
    let own = each_keeps ref_cmp snapshot_ref (snapshot_own b.version b.snapshots) (is_snapshot_fit b.version b.snapshots) (λ o t. refl) b.snapshots snapshots in
    and_left (has_two_underscores s.object.schema) _ (found_passes ref_cmp snapshot_ref (snapshot_own b.version b.snapshots) (snapshot_ref s) s b.snapshots own known)

module _ (clock : Clock) (b : Book) (nodes : List Node) (restate : Option Restate) (plan : Plan) (well : is_well_formed_book b ≡ true) (proper : is_proper nodes ≡ true) (is : IsPlan clock b nodes restate plan)
    (i : ℕ) (p : Planned) (e : slice_get plan.models i ≡ Some p) where
  abbrev all : List Snapshot
  all = b.snapshots

  abbrev beside : Option Snapshot
  beside = compared b plan.env p.node.own.name

  its : HasObject b plan.env p
  its = each_at (HasObject b plan.env) plan.models is.objects i p e

  -- it is that of a known snapshot, of one that is compared where the model is no view, or a fresh one
  abbrev Known : Type 0
  Known = (t : Snapshot) × (snapshot_at all (planned_ref p) ≡ Some t) × (t.object ≡ p.object)

  abbrev Stays : Type 0
  Stays = (t : Snapshot) × IsSnapshot all t × (t.object ≡ p.object) × ¬ (p.node.own.kind ≡ View)

  abbrev Fresh : Type 0
  Fresh = (is_free all p.node.fingerprint p.object ≡ true) × (has_two_underscores p.object.schema ≡ true)

  origin : Known ⊎ (Stays ⊎ Fresh)
  origin = from_own (snapshot_at all (planned_ref p)) refl its.object
    where
      from_compared : (v : Bool) (o : Option Snapshot) → stays its.category p.node.own.kind ≡ v → beside ≡ o → option_or (kept_object v o) (fresh all p.node.own.name p.node.fingerprint) ≡ Some p.object → Stays ⊎ Fresh
      from_compared true (Some c) t f h = inl (c, (compared_is b plan.env p.node.own.name c f).0, (let same : c.object ≡ p.object = cc in same), not_view its.category p.node.own.kind t)
      from_compared true None t f h = inr (fresh_is (is_free all p.node.fingerprint) p.node.own.name p.node.fingerprint (0 ∷ 1 ∷ 2 ∷ 3 ∷ []) p.object h)
      from_compared false o t f h = inr (fresh_is (is_free all p.node.fingerprint) p.node.own.name p.node.fingerprint (0 ∷ 1 ∷ 2 ∷ 3 ∷ []) p.object h)

      from_own : (o : Option Snapshot) → snapshot_at all (planned_ref p) ≡ o
          → option_or (option_map (λ (s : Snapshot). s.object) o) (option_or (kept_object (stays its.category p.node.own.kind) beside) (fresh all p.node.own.name p.node.fingerprint)) ≡ Some p.object → Known ⊎ (Stays ⊎ Fresh)
      from_own (Some t) there h = inl (t, there, (let same : t.object ≡ p.object = cc in same))
      from_own None there h = inr (from_compared (stays its.category p.node.own.kind) beside refl refl h)

  pub object_named : has_two_underscores p.object.schema ≡ true
  object_named = go origin
    where
      go : Known ⊎ (Stays ⊎ Fresh) → has_two_underscores p.object.schema ≡ true
      go (inl (t, there, same)) = ap (λ (n : Name). has_two_underscores n.schema) (sym same) ∙ recorded_object b well t (is_its_own all (planned_ref p) t there)
      go (inr (inl (t, known, same, table))) = ap (λ (n : Name). has_two_underscores n.schema) (sym same) ∙ recorded_object b well t known
      go (inr (inr (free, named))) = named

  stored : (s : Snapshot) → IsSnapshot all s → s.fingerprint ≡ p.node.fingerprint → (s.own ≡ p.node.own) × (s.parents ≡ map planned_ref (parents_in plan.models p))
  stored = (each_at (HasNoClash b plan.models) plan.models is.clashes i p e).stored

  -- where the book has a snapshot of the model's reference, the model's is that again
  pub known_again : (old : Snapshot) → snapshot_at all (planned_ref p) ≡ Some old → IsAgain old (snapshot_of plan.moment plan.models p)
  known_again old there =
      let both = stored old (is_its_own all (planned_ref p) old there) (ap (λ (r : Ref). r.fingerprint) (its_ref all (planned_ref p) old there)) in
      let same = known_below b well nodes proper plan.models is.models is.closed (λ j q f. (each_at (HasNoClash b plan.models) plan.models is.clashes j q f).stored) (suc i) i (omega arith) p e old there in
      record { own = sym both.0; parents = sym both.1; rank = sym same.1; object = sym (go (snapshot_at all (planned_ref p)) there its.object) }
    where
      go : (o : Option Snapshot) → o ≡ Some old → option_or (option_map (λ (s : Snapshot). s.object) o) (option_or (kept_object (stays its.category p.node.own.kind) beside) (fresh all p.node.own.name p.node.fingerprint)) ≡ Some p.object → old.object ≡ p.object
      go None f h = absurd (let clash : None ≡ Some old = f in cc)
      go (Some s) f h =
          let same : s ≡ old = cc in
          let object : s.object ≡ p.object = cc in
          ap (λ (u : Snapshot). u.object) (sym same) ∙ object

  -- where it has none, a snapshot with the model's object is one of its name and a twin, and the model is no view
  module _ (shared : SharesWithTwins b) (none : snapshot_at all (planned_ref p) ≡ None) (s : Snapshot) (known : IsSnapshot all s) (share : s.object ≡ p.object) where
    abbrev Goal : Type 0
    Goal = (s.name ≡ p.node.own.name) × IsTwin (closing all s) p.closure × ¬ (p.node.own.kind ≡ View)

    its_twin : (s.name ≡ p.node.own.name) × IsTwin (closing all s) p.closure
    its_twin = given clock b nodes restate plan well proper is shared i p e s known share

    not_fresh : is_free all p.node.fingerprint p.object ≡ true → ⊥
    not_fresh free =
        let one : (same_text s.fingerprint p.node.fingerprint || not (same_name s.object p.object)) ≡ true =
        found_passes ref_cmp snapshot_ref (λ (s : Snapshot). same_text s.fingerprint p.node.fingerprint || not (same_name s.object p.object)) (snapshot_ref s) s all free known in
        let used : same_name s.object p.object ≡ true = ap (λ n. same_name n p.object) share ∙ itself p.object in
        let fingerprints : s.fingerprint ≡ p.node.fingerprint = text_is s.fingerprint p.node.fingerprint (first (same_text s.fingerprint p.node.fingerprint) (same_name s.object p.object) one used) in
        let reference : snapshot_ref s ≡ planned_ref p = (λ j. record { name = its_twin.0 j; fingerprint = fingerprints j }) in
        let clash : None ≡ Some s = sym none ∙ ap (snapshot_at all) (sym reference) ∙ known in
        absurd (cc)
      where
        first : (x y : Bool) → (x || not y) ≡ true → y ≡ true → x ≡ true
        first true y h k = refl
        first false true h k = absurd (cc)
        first false false h k = absurd (cc)

    pub new_twin : Goal
    new_twin = go origin
      where
        go : Known ⊎ (Stays ⊎ Fresh) → Goal
        go (inl (t, there, same)) = absurd (let clash : None ≡ Some t = sym none ∙ there in cc)
        go (inr (inl (t, kept, same, table))) = (its_twin.0, its_twin.1, table)
        go (inr (inr (free, named))) = absurd (not_fresh free)
