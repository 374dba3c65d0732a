-- No two models of a plan are given one table.
use Rattle.std.proofs.Common.{◌≡◌, ℕ, zero, suc, ◌*◌, ◌/◌, ◌%◌, ◌||◌, ◌&&◌, not, nat_eq, nat_le, Bool, true, false, cond, ◌⊎◌, inl, inr, List, [], ◌∷◌, ◌++◌, map, length, take, drop, slice_index, refl, ap, sym, ◌∙◌, subst}
use Rattle.std.specs.Prelude.{codes}
use Rattle.std.specs.List.{Contains, find, list_any, slice_get}
use Rattle.std.specs.Option.{option_map, option_or}
use Rattle.std.specs.Ordering.{is_eq}
use Rattle.std.specs.declared.option.Option.{Option}
use Rattle.std.specs.declared.option.Option.TheVariants.{None, Some}
use Rattle.std.proofs.lemmas.Bool.{and_parts}
use Rattle.std.proofs.lemmas.Cmp.{tied_itself}
use Rattle.std.proofs.lemmas.List.{append_cancel_left}
use Rattle.hex.specs.Hex.{encode_lower, encode_with, lower_digits}
use Rattle.mesh_list.specs.Keyed.{ascends}
use Rattle.mesh_base_values.specs.NameOrder.{names_total}
use Rattle.mesh_base_values.specs.Names.{name_cmp}
use Rattle.mesh_base_values.specs.declared.values.Name.{Name}
use Rattle.mesh_base.specs.declared.forgets.Restate.{Restate}
use Rattle.mesh_base.specs.declared.snapshots.Node.{Node}
use Rattle.mesh_base.specs.declared.snapshots.Snapshot.{Snapshot}
use Rattle.mesh_base.specs.rules.Proper.{are_fit, has_node, have_distinct_names, is_proper, node_cmp, node_itself}
use Rattle.mesh_house_book.specs.declared.book.Book.{Book}
use Rattle.mesh_house_book.specs.WellFormed.{is_well_formed_book, snapshot_at}
use Rattle.mesh_spec_model.specs.Horizons.{Clock}
use Rattle.mesh_law_query.proofs.Has.{Has, Has_from, Has_map_from, Has_right}
use Rattle.mesh_spec_changes.specs.listed.Closing.{IsSnapshot}
use Rattle.mesh_spec_changes.proofs.listed.Books.{is_its_own}
use Rattle.mesh_spec_changes.specs.due.Plans.{Planned}
use Rattle.mesh_spec_changes.specs.due.Versions.{fresh, group, is_free, kept_object, stays, table_name}
use Rattle.mesh_spec_changes.specs.Changes.{Plan, planned_ref}
use Rattle.mesh_spec_changes.specs.Planning.{HasNoClash, HasObject, IsPlan, compared}
use Rattle.mesh_law_reuse.specs.Shared.{SharesWithTwins}
use Rattle.mesh_law_reuse.proofs.Given.{compared_is, given}
use Rattle.mesh_law_reuse.proofs.Known.{each_at, node_at, place_there}

-- hexadecimal digits have no underscore among them
index_has : (xs : List ℕ) (k : ℕ) → slice_index xs k ≡ 95 → Has 95 xs
index_has [] k e = absurd (cc)
index_has (x ∷ xs) zero e = inl e
index_has (x ∷ xs) (suc k) e = inr (index_has xs k e)

none_has : (xs : List ℕ) → list_any (λ x. nat_eq x 95) xs ≡ false → ¬ Has 95 xs
none_has [] h k = k
none_has (x ∷ xs) h (inl e) =
    let clash : true ≡ false = sym (ap (λ n. nat_eq n 95 || list_any (λ y. nat_eq y 95) xs) e) ∙ h in absurd (cc)
none_has (x ∷ xs) h (inr k) = none_has xs (second (nat_eq x 95) (list_any (λ y. nat_eq y 95) xs) h) k
  where
    second : (b c : Bool) → (b || c) ≡ false → c ≡ false
    second true c e = absurd (cc)
    second false c e = e

no_digit : (k : ℕ) → ¬ (slice_index lower_digits k ≡ 95)
no_digit k e = none_has lower_digits refl (index_has lower_digits k e)

no_underscore : (bytes : List ℕ) → ¬ Has 95 (encode_lower bytes)
unfolding encode_with
no_underscore [] h = h
no_underscore (b ∷ bytes) (inl e) = no_digit (b / 16) e
no_underscore (b ∷ bytes) (inr (inl e)) = no_digit (b % 16) e
no_underscore (b ∷ bytes) (inr (inr h)) = no_underscore bytes h

of_taken : (n : ℕ) (xs : List ℕ) (x : ℕ) → Has x (take n xs) → Has x xs
of_taken zero xs x h = absurd h
of_taken (suc n) [] x h = h
of_taken (suc n) (y ∷ xs) x (inl e) = inl e
of_taken (suc n) (y ∷ xs) x (inr h) = inr (of_taken n xs x h)

of_dropped : (n : ℕ) (xs : List ℕ) (x : ℕ) → Has x (drop n xs) → Has x xs
of_dropped zero xs x h = h
of_dropped (suc n) [] x h = h
of_dropped (suc n) (y ∷ xs) x h = inr (of_dropped n xs x h)

group_plain : (fingerprint : List ℕ) (k : ℕ) → ¬ Has 95 (group fingerprint k)
group_plain fingerprint k h = no_underscore fingerprint (of_dropped (16 * k) (encode_lower fingerprint) 95 (of_taken 16 (drop (16 * k) (encode_lower fingerprint)) 95 h))

-- so a text is told by what stands before the last underscores
behind_last : (xs ys us vs : List ℕ) → ¬ Has 95 us → ¬ Has 95 vs → xs ++ 95 ∷ 95 ∷ us ≡ ys ++ 95 ∷ 95 ∷ vs → xs ≡ ys
behind_last [] [] us vs p q e = refl
behind_last [] (y ∷ []) us vs p q e = absurd (p (subst (Has 95) (let rest : 95 ∷ vs ≡ us = cc in rest) (inl refl)))
behind_last [] (y ∷ z ∷ ys) us vs p q e = absurd (p (subst (Has 95) (let rest : ys ++ 95 ∷ 95 ∷ vs ≡ us = cc in rest) (Has_right 95 ys (95 ∷ 95 ∷ vs) (inl refl))))
behind_last (x ∷ []) [] us vs p q e = absurd (q (subst (Has 95) (let rest : 95 ∷ us ≡ vs = cc in rest) (inl refl)))
behind_last (x ∷ z ∷ xs) [] us vs p q e = absurd (q (subst (Has 95) (let rest : xs ++ 95 ∷ 95 ∷ us ≡ vs = cc in rest) (Has_right 95 xs (95 ∷ 95 ∷ us) (inl refl))))
behind_last (x ∷ xs) (y ∷ ys) us vs p q e =
    let first : x ≡ y = cc in
    let rest : xs ++ 95 ∷ 95 ∷ us ≡ ys ++ 95 ∷ 95 ∷ vs = cc in
    λ i. first i ∷ behind_last xs ys us vs p q rest i

-- the names of tables tell models apart
of_one_model : (m n : Name) (f g : List ℕ) (j k : ℕ) → table_name m f j ≡ table_name n g k → m ≡ n
of_one_model m n f g j k e =
    let schemas : m.schema ≡ n.schema = append_cancel_left (codes "sqlmesh__") m.schema n.schema (ap (λ (t : Name). t.schema) e) in
    let tail : List ℕ → List ℕ → List ℕ = λ model last. codes "__" ++ (model ++ (codes "__" ++ last)) in
    let whole : m.schema ++ tail m.model (group f j) ≡ m.schema ++ tail n.model (group g k) = ap (λ (t : Name). t.model) e ∙ ap (λ s. s ++ tail n.model (group g k)) (sym schemas) in
    let later : tail m.model (group f j) ≡ tail n.model (group g k) = append_cancel_left m.schema (tail m.model (group f j)) (tail n.model (group g k)) whole in
    let behind : m.model ++ (codes "__" ++ group f j) ≡ n.model ++ (codes "__" ++ group g k) =
    append_cancel_left (codes "__") (m.model ++ (codes "__" ++ group f j)) (n.model ++ (codes "__" ++ group g k)) later in
    let models : m.model ≡ n.model = behind_last m.model n.model (group f j) (group g k) (group_plain f j) (group_plain g k) behind in
    λ i. record { schema = schemas i; model = models i }

find_has : {A : Type 0} (p : A → Bool) (xs : List A) (x : A) → find p xs ≡ Some x → Has x xs
find_has p [] x e = absurd (cc)
find_has p (y ∷ xs) x e = go (p y) e (find_has p xs x)
  where
    go : (b : Bool) → cond b (Some y) (find p xs) ≡ Some x → (find p xs ≡ Some x → Has x xs) → Has x (y ∷ xs)
    go true e rest = inl (let same : y ≡ x = cc in same)
    go false e rest = inr (rest e)

fresh_is : (all : List Snapshot) (m : Name) (f : List ℕ) (object : Name) → fresh all m f ≡ Some object → (k : ℕ) × (table_name m f k ≡ object)
fresh_is all m f object e =
    let (k, h, same) = Has_map_from (table_name m f) (0 ∷ 1 ∷ 2 ∷ 3 ∷ []) object (find_has (is_free all f) (map (table_name m f) (0 ∷ 1 ∷ 2 ∷ 3 ∷ [])) object e) in
    (k, same)

-- the models of a project have distinct names
no_other : (nodes : List Node) (name : Name) → has_node nodes name ≡ false → (i : ℕ) (n : Node) → slice_get nodes i ≡ Some n → ¬ (n.own.name ≡ name)
no_other [] name h i n e same = absurd (let f : None ≡ Some n = e in cc)
no_other (m ∷ nodes) name h zero n e same =
    let is : m ≡ n = cc in
    let tied : is_eq (name_cmp m.own.name name) ≡ true = ap (λ t. is_eq (name_cmp t name)) (ap (λ (x : Node). x.own.name) is ∙ same) ∙ ap is_eq (tied_itself names_total name) in
    let f : true ≡ false = sym (ap (λ b. b || has_node nodes name) tied) ∙ h in
    absurd (cc)
no_other (m ∷ nodes) name h (suc i) n e same = no_other nodes name (rest (is_eq (name_cmp m.own.name name)) h) i n e same
  where
    rest : (b : Bool) → (b || has_node nodes name) ≡ false → has_node nodes name ≡ false
    rest true k = absurd (cc)
    rest false k = k

parts : (b c : Bool) → (not b && c) ≡ true → (b ≡ false) × (c ≡ true)
parts true c h = absurd (cc)
parts false c h = (refl, h)

one_place : (nodes : List Node) → have_distinct_names nodes ≡ true → (i j : ℕ) (m n : Node) → slice_get nodes i ≡ Some m → slice_get nodes j ≡ Some n → m.own.name ≡ n.own.name → i ≡ j
one_place [] d i j m n e f same = absurd (let no : None ≡ Some m = e in cc)
one_place (x ∷ nodes) d zero zero m n e f same = refl
one_place (x ∷ nodes) d zero (suc j) m n e f same =
    let is : x ≡ m = cc in
    absurd (no_other nodes x.own.name (parts (has_node nodes x.own.name) (have_distinct_names nodes) d).0 j n f (sym same ∙ ap (λ (t : Node). t.own.name) (sym is)))
one_place (x ∷ nodes) d (suc i) zero m n e f same =
    let is : x ≡ n = cc in
    absurd (no_other nodes x.own.name (parts (has_node nodes x.own.name) (have_distinct_names nodes) d).0 i m e (same ∙ ap (λ (t : Node). t.own.name) (sym is)))
one_place (x ∷ nodes) d (suc i) (suc j) m n e f same = ap suc (one_place nodes (parts (has_node nodes x.own.name) (have_distinct_names nodes) d).1 i j m n e f same)

module _ (clock : Clock) (b : Book) (nodes : List Node) (restate : Option Restate) (plan : Plan)
    (well : is_well_formed_book b ≡ true) (proper : is_proper nodes ≡ true) (is : IsPlan clock b nodes restate plan) (shared : SharesWithTwins b) where
  abbrev all : List Snapshot
  all = b.snapshots

  -- a model's table is that of a stored snapshot, or fresh
  abbrev Stored : Planned → Type 0
  Stored p = (s : Snapshot) × (IsSnapshot all s × (s.object ≡ p.object))

  abbrev Fresh : Planned → Type 0
  Fresh p = fresh all p.node.own.name p.node.fingerprint ≡ Some p.object

  origin : (p : Planned) → HasObject b plan.env p → Stored p ⊎ Fresh p
  origin p its = from_own (snapshot_at all (planned_ref p)) refl its.object
    where
      from_compared : (v : Bool) (o : Option Snapshot) → compared b plan.env p.node.own.name ≡ o → option_or (kept_object v o) (fresh all p.node.own.name p.node.fingerprint) ≡ Some p.object → Stored p ⊎ Fresh p
      from_compared true (Some c) f h = inl (c, ((compared_is b plan.env p.node.own.name c f).0, (let same : c.object ≡ p.object = cc in same)))
      from_compared true None f h = inr h
      from_compared false o f h = inr h

      from_own : (o : Option Snapshot) → snapshot_at all (planned_ref p) ≡ o
          → option_or (option_map (λ (s : Snapshot). s.object) o) (option_or (kept_object (stays its.category p.node.own.kind) (compared b plan.env p.node.own.name)) (fresh all p.node.own.name p.node.fingerprint)) ≡ Some p.object
          → Stored p ⊎ Fresh p
      from_own (Some t) there h = inl (t, (is_its_own all (planned_ref p) t there, (let same : t.object ≡ p.object = cc in same)))
      from_own None there h = from_compared (stays its.category p.node.own.kind) (compared b plan.env p.node.own.name) refl h

  its_object : (i : ℕ) (p : Planned) → slice_get plan.models i ≡ Some p → HasObject b plan.env p
  its_object i p e = each_at (HasObject b plan.env) plan.models is.objects i p e

  -- so the names of models that share one are the same
  module _ (i j : ℕ) (p q : Planned) (e : slice_get plan.models i ≡ Some p) (f : slice_get plan.models j ≡ Some q) (share : p.object ≡ q.object) where
    of_stored : (s : Snapshot) → IsSnapshot all s → s.object ≡ p.object → p.node.own.name ≡ q.node.own.name
    of_stored s known at =
        sym (given clock b nodes restate plan well proper is shared i p e s known at).0
        ∙ (given clock b nodes restate plan well proper is shared j q f s known (at ∙ share)).0

    of_fresh : Fresh p → Fresh q → p.node.own.name ≡ q.node.own.name
    of_fresh x y =
        let (k, is_p) = fresh_is all p.node.own.name p.node.fingerprint p.object x in
        let (l, is_q) = fresh_is all q.node.own.name q.node.fingerprint q.object y in
        of_one_model p.node.own.name q.node.own.name p.node.fingerprint q.node.fingerprint k l (is_p ∙ share ∙ sym is_q)

    one_name : Stored p ⊎ Fresh p → Stored q ⊎ Fresh q → p.node.own.name ≡ q.node.own.name
    one_name (inl (s, (known, at))) o = of_stored s known at
    one_name (inr x) (inl (s, (known, at))) = of_stored s known (at ∙ sym share)
    one_name (inr x) (inr y) = of_fresh x y

    one_model : p ≡ q
    one_model =
        let a = and_parts (nat_le (length nodes) 4096) _ proper in
        let c = and_parts (ascends node_cmp node_itself nodes) _ a.1 in
        let distinct : have_distinct_names nodes ≡ true = (and_parts (have_distinct_names nodes) (are_fit nodes nodes) c.1).0 in
        let place : i ≡ j =
        one_place nodes distinct i j p.node q.node (node_at b well nodes proper plan.models is.models is.closed (λ j q f. (each_at (HasNoClash b plan.models) plan.models is.clashes j q f).stored) i p e) (node_at b well nodes proper plan.models is.models is.closed (λ j q f. (each_at (HasNoClash b plan.models) plan.models is.clashes j q f).stored) j q f) (one_name (origin p (its_object i p e)) (origin q (its_object j q f))) in
        let both : Some p ≡ Some q = sym e ∙ ap (slice_get plan.models) place ∙ f in
        let same : p ≡ q = cc in
        same

  pub single : (p q : Planned) → Contains plan.models p → Contains plan.models q → p.object ≡ q.object → p ≡ q
  single p q h k share =
      let (i, e) = place_there plan.models p (Has_from plan.models p h) in
      let (j, f) = place_there plan.models q (Has_from plan.models q k) in
      one_model i j p q e f share
