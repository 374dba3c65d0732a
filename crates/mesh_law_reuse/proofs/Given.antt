-- The tables that the models of a plan are given are of twins.
use Rattle.std.proofs.Common.{◌≡◌, ℕ, suc, ◌||◌, not, Bool, true, false, cond, inl, inr, List, [], ◌∷◌, map, refl, ap, sym, ◌∙◌, subst, arith}
use Rattle.std.specs.List.{Contains, find, slice_get}
use Rattle.std.specs.Option.{option_and_then, option_map, option_or}
use Rattle.std.specs.Ordering.{is_eq}
use Rattle.std.specs.declared.cmp.Ordering.{Ordering}
use Rattle.std.specs.declared.option.Option.{Option}
use Rattle.std.specs.declared.option.Option.TheVariants.{None, Some}
use Rattle.std.proofs.lemmas.Cmp.{tied_itself}
use Rattle.mesh_list.specs.Keyed.{found}
use Rattle.mesh_base_values.specs.NameOrder.{names_exact, names_total}
use Rattle.mesh_base_values.specs.Names.{name_cmp}
use Rattle.mesh_base_values.specs.Picked.{same_text}
use Rattle.mesh_base_values.specs.declared.values.Name.{Name}
use Rattle.mesh_base.specs.Keys.{ref_cmp, ref_name, snapshot_ref}
use Rattle.mesh_base.specs.declared.definitions.Own.{Own}
use Rattle.mesh_base.specs.declared.forgets.Restate.{Restate}
use Rattle.mesh_base.specs.declared.plans.Category.{Category}
use Rattle.mesh_base.specs.declared.snapshots.Node.{Node}
use Rattle.mesh_base.specs.declared.snapshots.Ref.{Ref}
use Rattle.mesh_base.specs.declared.snapshots.Snapshot.{Snapshot}
use Rattle.mesh_base.specs.rules.Proper.{is_proper}
use Rattle.mesh_house_book.specs.declared.book.Book.{Book}
use Rattle.mesh_house_book.specs.WellFormed.{is_well_formed_book, snapshot_at}
use Rattle.mesh_house_book.proofs.Exchanged.{found_key}
use Rattle.mesh_spec_model.specs.Closures.{closures}
use Rattle.mesh_spec_model.specs.Horizons.{Clock}
use Rattle.mesh_law_query.proofs.Finding.{one_passes}
use Rattle.mesh_law_query.proofs.Has.{Has, Has_from}
use Rattle.mesh_law_query.proofs.ReadColumns.{text_is}
use Rattle.mesh_spec_changes.specs.listed.Closing.{IsSnapshot, closing}
use Rattle.mesh_spec_changes.proofs.listed.Books.{fits, is_its_own, its_ref}
use Rattle.mesh_spec_changes.specs.reuse.Categories.{HasCategory}
use Rattle.mesh_spec_changes.specs.reuse.Cores.{core, IsTwin}
use Rattle.mesh_spec_changes.specs.due.Parts.{same_name}
use Rattle.mesh_spec_changes.specs.due.Plans.{Planned}
use Rattle.mesh_spec_changes.specs.due.Versions.{fresh, is_free, kept_object, node_ref, stays, table_name}
use Rattle.mesh_spec_changes.specs.Changes.{Plan, planned_ref}
use Rattle.mesh_spec_changes.specs.Planning.{HasNoClash, HasObject, IsKept, IsPlan, IsRunPlan, compared, compared_list, stated, stated_new}
use Rattle.mesh_law_reuse.specs.Shared.{SharesWithTwins}
use Rattle.mesh_law_reuse.proofs.Books.{snapshots_well}
use Rattle.mesh_law_reuse.proofs.Known.{closure_at, each_at, known_below, place_there}
use Rattle.mesh_law_reuse.proofs.Projects.{project_well_at}
use Rattle.mesh_law_reuse.proofs.Staying.{staying_twins}

found_there : {A K : Type 0} (R : K → K → Ordering) (key : A → K) (k : K) (x : A) (xs : List A) → found R key k xs ≡ Some x → Has x xs
found_there R key k x [] e = absurd (cc)
found_there R key k x (y ∷ xs) e = go (is_eq (R (key y) k)) e (found_there R key k x xs)
  where
    go : (b : Bool) → cond b (Some y) (found R key k xs) ≡ Some x → (found R key k xs ≡ Some x → Has x xs) → Has x (y ∷ xs)
    go true e rest = inl (let same : y ≡ x = cc in same)
    go false e rest = inr (rest e)

find_passes : {A : Type 0} (p : A → Bool) (xs : List A) (x : A) → find p xs ≡ Some x → p x ≡ true
find_passes p [] x e = absurd (cc)
find_passes p (y ∷ xs) x e = go (p y) refl e (find_passes p xs x)
  where
    go : (b : Bool) → p y ≡ b → cond b (Some y) (find p xs) ≡ Some x → (find p xs ≡ Some x → p x ≡ true) → p x ≡ true
    go true t e rest = let same : y ≡ x = cc in ap p (sym same) ∙ t
    go false t e rest = rest e

-- what a model is compared with is a snapshot of the book, of the model's name
pub compared_is : (b : Book) (env : List ℕ) (name : Name) (c : Snapshot) → compared b env name ≡ Some c → IsSnapshot b.snapshots c × (c.name ≡ name)
compared_is b env name c f = go (found name_cmp ref_name name (compared_list b env)) refl f
  where
    go : (o : Option Ref) → found name_cmp ref_name name (compared_list b env) ≡ o → option_and_then (snapshot_at b.snapshots) o ≡ Some c → IsSnapshot b.snapshots c × (c.name ≡ name)
    go None g h = absurd (cc)
    go (Some r) g h = (is_its_own b.snapshots r c h, ap ref_name (its_ref b.snapshots r c h) ∙ found_key name_cmp ref_name names_exact name r (compared_list b env) g)

module _ (clock : Clock) (b : Book) (nodes : List Node) (restate : Option Restate) (plan : Plan)
    (well : is_well_formed_book b ≡ true) (proper : is_proper nodes ≡ true) (is : IsPlan clock b nodes restate plan) where
  abbrev all : List Snapshot
  all = b.snapshots

  abbrev models : List Planned
  models = plan.models

  no_clash : (i : ℕ) (p : Planned) → slice_get models i ≡ Some p → HasNoClash b models p
  no_clash i p e = each_at (HasNoClash b models) models is.clashes i p e

  slice_closure : (i : ℕ) (p : Planned) → slice_get models i ≡ Some p → slice_get (closures nodes) i ≡ Some p.closure
  slice_closure i p e = closure_at b well nodes proper models is.models is.closed (λ j q f. (no_clash j q f).stored) i p e

  module _ (shared : SharesWithTwins b) (i : ℕ) (p : Planned) (e : slice_get models i ≡ Some p) (s : Snapshot) (known : IsSnapshot all s) (share : s.object ≡ p.object) where
    abbrev Goal : Type 0
    Goal = (s.name ≡ p.node.own.name) × IsTwin (closing all s) p.closure

    abbrev beside : Option Snapshot
    beside = compared b plan.env p.node.own.name

    -- it is that of the model's own snapshot
    of_own : (t : Snapshot) → snapshot_at all (planned_ref p) ≡ Some t → t.object ≡ p.object → Goal
    of_own t there same =
        let (names, twins) = shared s t known (is_its_own all (planned_ref p) t there) (share ∙ sym same) in
        (names ∙ ap ref_name (its_ref all (planned_ref p) t there), twins ∙ ap core (known_below b well nodes proper models is.models is.closed (λ j q f. (no_clash j q f).stored) (suc i) i (omega arith) p e t there).0)

    -- or that of the snapshot that the model is compared with
    of_compared : (c : Snapshot) → beside ≡ Some c → c.object ≡ p.object → (category : Category) → HasCategory (option_map (stated b) beside) (stated_new p) category → stays category p.node.own.kind ≡ true → Goal
    of_compared c f same category has stay =
        let (its, name) = compared_is b plan.env p.node.own.name c f in
        let (names, twins) = shared s c known its (share ∙ sym same) in
        let as_stated : HasCategory (Some (stated b c)) (stated_new p) category = subst (λ o. HasCategory (option_map (stated b) o) (stated_new p) category) f has in
        (names ∙ name, twins ∙ staying_twins (stated b c) (stated_new p) category p.node.own.kind as_stated stay (snapshots_well b well c its) (project_well_at nodes proper i p.closure (slice_closure i p e)))

    -- a fresh one is that of no other fingerprint, and so of the model's own snapshot
    of_fresh : snapshot_at all (planned_ref p) ≡ None → fresh all p.node.own.name p.node.fingerprint ≡ Some p.object → Goal
    of_fresh none f =
        let free : is_free all p.node.fingerprint p.object ≡ true =
        find_passes (is_free all p.node.fingerprint) (map (table_name p.node.own.name p.node.fingerprint) (0 ∷ 1 ∷ 2 ∷ 3 ∷ [])) p.object f in
        let among : Has s all = found_there ref_cmp snapshot_ref (snapshot_ref s) s all known in
        let one : (same_text s.fingerprint p.node.fingerprint || not (same_name s.object p.object)) ≡ true =
        one_passes (λ (s : Snapshot). same_text s.fingerprint p.node.fingerprint || not (same_name s.object p.object)) all s free among in
        let used : same_name s.object p.object ≡ true = ap (λ n. same_name n p.object) share ∙ ap is_eq (tied_itself names_total p.object) in
        let alike : same_text s.fingerprint p.node.fingerprint ≡ true = first (same_text s.fingerprint p.node.fingerprint) (same_name s.object p.object) one used in
        let fingerprints : s.fingerprint ≡ p.node.fingerprint = text_is s.fingerprint p.node.fingerprint alike in
        let (own, refs) = (no_clash i p e).stored s known fingerprints in
        let names : s.name ≡ p.node.own.name = sym (fits b s well known).name ∙ ap (λ (o : Own). o.name) own in
        let reference : snapshot_ref s ≡ planned_ref p = (λ j. record { name = names j; fingerprint = fingerprints j }) in
        let there : snapshot_at all (planned_ref p) ≡ Some s = ap (snapshot_at all) (sym reference) ∙ known in
        let clash : None ≡ Some s = sym none ∙ there in
        absurd (cc)
      where
        first : (x y : Bool) → (x || not y) ≡ true → y ≡ true → x ≡ true
        first true y h k = refl
        first false true h k = absurd (cc)
        first false false h k = absurd (cc)

    pub given : Goal
    given = from_own (snapshot_at all (planned_ref p)) refl its.object
      where
        its : HasObject b plan.env p
        its = each_at (HasObject b plan.env) models is.objects i p e

        from_compared : (v : Bool) (o : Option Snapshot) → stays its.category p.node.own.kind ≡ v → beside ≡ o → snapshot_at all (planned_ref p) ≡ None
            → option_or (kept_object v o) (fresh all p.node.own.name p.node.fingerprint) ≡ Some p.object → Goal
        from_compared true (Some c) t f none h = of_compared c f (let same : c.object ≡ p.object = cc in same) its.category its.is t
        from_compared true None t f none h = of_fresh none h
        from_compared false o t f none h = of_fresh none h

        from_own : (o : Option Snapshot) → snapshot_at all (planned_ref p) ≡ o
            → option_or (option_map (λ (s : Snapshot). s.object) o) (option_or (kept_object (stays its.category p.node.own.kind) beside) (fresh all p.node.own.name p.node.fingerprint)) ≡ Some p.object → Goal
        from_own (Some t) there h = of_own t there (let same : t.object ≡ p.object = cc in same)
        from_own None there h = from_compared (stays its.category p.node.own.kind) beside refl refl there h

  pub given_twins : SharesWithTwins b → (p : Planned) → Contains models p → (s : Snapshot) → IsSnapshot all s → s.object ≡ p.object → (s.name ≡ p.node.own.name) × IsTwin (closing all s) p.closure
  given_twins shared p h s known share = let (i, e) = place_there models p (Has_from models p h) in given shared i p e s known share

-- the same of a run
pub run_twins : (clock : Clock) (b : Book) (plan : Plan) → IsRunPlan clock b plan → SharesWithTwins b → (p : Planned) → Contains plan.models p → (s : Snapshot) → IsSnapshot b.snapshots s → s.object ≡ p.object
    → (s.name ≡ p.node.own.name) × IsTwin (closing b.snapshots s) p.closure
run_twins clock b plan is shared p h s known share =
    let (i, e) = place_there plan.models p (Has_from plan.models p h) in
    let kept = each_at (IsKept b) plan.models is.models i p e in
    let (names, twins) = shared s kept.snapshot known (is_its_own b.snapshots (node_ref p.node) kept.snapshot kept.known) (share ∙ sym kept.object) in
    (names ∙ ap ref_name (its_ref b.snapshots (node_ref p.node) kept.snapshot kept.known), twins ∙ ap core kept.closure)
