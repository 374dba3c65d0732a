-- The references and the objects of a plan's models, by name.
use Rattle.std.proofs.Common.{◌≡◌, ℕ, zero, suc, ◌≤◌, Bool, true, false, not, ◌⊎◌, inl, inr, List, [], ◌∷◌, length, map, Some, None, nat_le, refl, sym, ap, ◌∙◌, subst, arith, leb-true}
use Rattle.std.specs.Prelude.{◌||◌, ◌&&◌}
use Rattle.std.specs.Cmp.{Equal-is}
use Rattle.std.specs.List.{slice_get}
use Rattle.std.proofs.lemmas.Cmp.{tied_itself}
use Rattle.std.specs.Option.{option_to_list}
use Rattle.std.specs.declared.cmp.Ordering.{Ordering}
use Rattle.std.specs.declared.cmp.Ordering.TheVariants.{Less, Equal, Greater}
use Rattle.mesh_list.specs.Keyed.{ascends, placed, put_by}
use Rattle.std.specs.Ordering.{is_eq}
use Rattle.std.proofs.lemmas.Bool.{not-true as not_is}
use Rattle.mesh_list.proofs.Ascends.{and_left, and_right, ascends-placed}
use Rattle.mesh_base_values.specs.Names.{name_cmp}
use Rattle.mesh_base_values.specs.NameOrder.{names_exact, names_total}
use Rattle.mesh_base_values.specs.declared.values.Name.{Name}
use Rattle.mesh_base_values.specs.declared.values.Pair.{Pair}
use Rattle.mesh_base.specs.Keys.{ref_name}
use Rattle.mesh_base.specs.declared.snapshots.Node.{Node}
use Rattle.mesh_base.specs.declared.snapshots.Ref.{Ref}
use Rattle.mesh_base.specs.rules.Proper.{are_fit, has_node, have_distinct_names, is_proper, node_cmp, node_itself}
use Rattle.mesh_house_book.specs.Changes.{previous_of}
use Rattle.mesh_house_book.specs.declared.book.Book.{Book}
use Rattle.mesh_law_query.proofs.Has.{Has, Has_filter, Has_filter_from, Has_flat_from, Has_map, Has_map_from, Has_some_from}
use Rattle.mesh_spec_changes.proofs.listed.Lists.{placed_from, placed_itself, placed_keeps}
use Rattle.mesh_spec_changes.specs.due.Parts.{same_name}
use Rattle.mesh_spec_changes.specs.due.Plans.{Planned}
use Rattle.mesh_spec_changes.specs.Changes.{gone, is_listed, name_itself, names_by_order, objects_by_name, pair_first, parents_in, planned_ref, refs_by_name, target_of}
use Rattle.mesh_spec_changes.specs.Environments.{env_at}

-- no two models have one name
abbrev pub HaveNames : List Planned → Type 0
HaveNames ps = (p q : Planned) → Has p ps → Has q ps → p.node.own.name ≡ q.node.own.name → p ≡ q

-- what is put at its place among others, by a name of each
module _ {A B : Type 0} (key : A → Name) (f : B → A) (name : B → Name) (named : (b : B) → key (f b) ≡ name b) where
  abbrev pub by_name : List B → List A
  by_name [] = []
  by_name (p ∷ ps) = placed name_cmp key (f p) (by_name ps)

  pub ascend : (ps : List B) → ascends name_cmp key (by_name ps) ≡ true
  ascend [] = refl
  ascend (p ∷ ps) = ascends-placed name_cmp names_total key (f p) (by_name ps) (ascend ps)

  pub from_name : (ps : List B) (a : A) → Has a (by_name ps) → (p : B) × Has p ps × (f p ≡ a)
  from_name [] a h = absurd h
  from_name (p ∷ ps) a h = go (placed_from name_cmp key (f p) (by_name ps) a h) (from_name ps a)
    where
      go : (f p ≡ a) ⊎ Has a (by_name ps) → (Has a (by_name ps) → (q : B) × Has q ps × (f q ≡ a)) → (q : B) × Has q (p ∷ ps) × (f q ≡ a)
      go (inl e) more = (p, inl refl, e)
      go (inr k) more = let (q, i, e) = more k in (q, inr i, e)

  pub to_name : (ps : List B) → ((p q : B) → Has p ps → Has q ps → name p ≡ name q → p ≡ q) → (p : B) → Has p ps → Has (f p) (by_name ps)
  to_name [] names p h = absurd h
  to_name (q ∷ ps) names p (inl e) = subst (λ (r : B). Has (f r) (by_name (q ∷ ps))) e (placed_itself name_cmp key (f q) (by_name ps))
  to_name (q ∷ ps) names p (inr h) = go (name_cmp (key (f p)) (key (f q))) refl (to_name ps (λ r s i j e. names r s (inr i) (inr j) e) p h)
    where
      go : (o : Ordering) → name_cmp (key (f p)) (key (f q)) ≡ o → Has (f p) (by_name ps) → Has (f p) (by_name (q ∷ ps))
      go Less e there = placed_keeps name_cmp key (f q) (by_name ps) (f p) there (λ k. absurd (let clash : Less ≡ Equal = sym e ∙ k in cc))
      go Greater e there = placed_keeps name_cmp key (f q) (by_name ps) (f p) there (λ k. absurd (let clash : Greater ≡ Equal = sym e ∙ k in cc))
      go Equal e there =
          let one : p ≡ q = names p q (inr h) (inl refl) (sym (named p) ∙ names_exact (key (f p)) (key (f q)) e ∙ named q) in
          subst (λ (r : B). Has (f r) (by_name (q ∷ ps))) (sym one) (placed_itself name_cmp key (f q) (by_name ps))

  placed_short : (y : A) (xs : List A) → length (placed name_cmp key y xs) ≤ suc (length xs)
  placed_short y [] = omega arith
  placed_short y (x ∷ xs) = go (name_cmp (key x) (key y)) (placed_short y xs)
    where
      go : (o : Ordering) → length (placed name_cmp key y xs) ≤ suc (length xs) → length (put_by o x y xs (placed name_cmp key y xs)) ≤ suc (suc (length xs))
      go Less more = omega (arith, more)
      go Equal more = omega arith
      go Greater more = omega arith

  pub short : (ps : List B) → length (by_name ps) ≤ length ps
  short [] = omega arith
  short (p ∷ ps) = let one = placed_short (f p) (by_name ps) in let rest = short ps in omega (arith, one, rest)

abbrev its_name : Planned → Name
its_name p = p.node.own.name

abbrev ref_named : (p : Planned) → ref_name (planned_ref p) ≡ p.node.own.name
ref_named p = refl

abbrev pair_named : (p : Planned) → pair_first (target_of p) ≡ p.node.own.name
pair_named p = refl

pub refs_are : (ps : List Planned) → by_name ref_name planned_ref its_name ref_named ps ≡ refs_by_name ps
refs_are [] = refl
refs_are (p ∷ ps) = ap (placed name_cmp ref_name (planned_ref p)) (refs_are ps)

pub objects_are : (ps : List Planned) → by_name pair_first target_of its_name pair_named ps ≡ objects_by_name ps
objects_are [] = refl
objects_are (p ∷ ps) = ap (placed name_cmp pair_first (target_of p)) (objects_are ps)

-- the references of some models
pub refs_ascend : (ps : List Planned) → ascends name_cmp ref_name (refs_by_name ps) ≡ true
refs_ascend ps = ap (ascends name_cmp ref_name) (sym (refs_are ps)) ∙ ascend ref_name planned_ref its_name ref_named ps

pub refs_from : (ps : List Planned) (r : Ref) → Has r (refs_by_name ps) → (p : Planned) × Has p ps × (planned_ref p ≡ r)
refs_from ps r h = from_name ref_name planned_ref its_name ref_named ps r (subst (Has r) (sym (refs_are ps)) h)

pub refs_to : (ps : List Planned) → HaveNames ps → (p : Planned) → Has p ps → Has (planned_ref p) (refs_by_name ps)
refs_to ps names p h = subst (Has (planned_ref p)) (refs_are ps) (to_name ref_name planned_ref its_name ref_named ps names p h)

pub refs_short : (ps : List Planned) → length (refs_by_name ps) ≤ length ps
refs_short ps = subst (λ (l : List Ref). length l ≤ length ps) (refs_are ps) (short ref_name planned_ref its_name ref_named ps)

-- the objects of some models
pub objects_from : (ps : List Planned) (o : Pair) → Has o (objects_by_name ps) → (p : Planned) × Has p ps × (target_of p ≡ o)
objects_from ps o h = from_name pair_first target_of its_name pair_named ps o (subst (Has o) (sym (objects_are ps)) h)

pub objects_to : (ps : List Planned) → HaveNames ps → (p : Planned) → Has p ps → Has (target_of p) (objects_by_name ps)
objects_to ps names p h = subst (Has (target_of p)) (objects_are ps) (to_name pair_first target_of its_name pair_named ps names p h)

-- an item at a place stands in the list
pub at_place : {X : Type 0} (xs : List X) (i : ℕ) (x : X) → slice_get xs i ≡ Some x → Has x xs
at_place {X} [] i x e = absurd (let f : None ≡ Some x = e in cc)
at_place (y ∷ ys) zero x e = inl (let same : y ≡ x = cc in same)
at_place (y ∷ ys) (suc i) x e = inr (at_place ys i x e)

-- a parent of a model is one of the plan's
pub parent_there : (all : List Planned) (p q : Planned) → Has q (parents_in all p) → Has q all
parent_there all p q h =
    let (i, k, j) = Has_flat_from (λ (n : ℕ). option_to_list (slice_get all n)) p.node.parents q h in
    at_place all i q (Has_some_from (slice_get all i) q j)

-- names by their order are just these names
names_are : (ns : List Name) → by_name name_itself name_itself name_itself (λ n. refl) ns ≡ names_by_order ns
names_are [] = refl
names_are (n ∷ ns) = ap (placed name_cmp name_itself n) (names_are ns)

ordered_from : (ns : List Name) (n : Name) → Has n (names_by_order ns) → Has n ns
ordered_from ns n h =
    let (m, i, e) = from_name name_itself name_itself name_itself (λ k. refl) ns n (subst (Has n) (sym (names_are ns)) h) in
    subst (λ (k : Name). Has k ns) e i

ordered_to : (ns : List Name) (n : Name) → Has n ns → Has n (names_by_order ns)
ordered_to ns n h = subst (Has n) (names_are ns) (to_name name_itself name_itself name_itself (λ k. refl) ns (λ p q i j e. e) n h)

-- what is gone of an environment are the models of its list before that aren't planned
pub gone_from : (b : Book) (env : List ℕ) (all : List Planned) (n : Name) → Has n (gone b env all) → (r : Ref) × Has r (previous_of (env_at b env)) × (r.name ≡ n) × (is_listed all n ≡ false)
gone_from b env all n h =
    let (i, e) = Has_filter_from (λ (k : Name). not (is_listed all k)) (names_by_order (map ref_name (previous_of (env_at b env)))) n h in
    let (r, j, f) = Has_map_from ref_name (previous_of (env_at b env)) n (ordered_from (map ref_name (previous_of (env_at b env))) n i) in
    (r, j, f, not_is (is_listed all n) e)

pub gone_to : (b : Book) (env : List ℕ) (all : List Planned) (r : Ref) → Has r (previous_of (env_at b env)) → is_listed all r.name ≡ false → Has r.name (gone b env all)
gone_to b env all r h e =
    Has_filter (λ (k : Name). not (is_listed all k)) (names_by_order (map ref_name (previous_of (env_at b env)))) r.name
    (ordered_to (map ref_name (previous_of (env_at b env))) r.name (Has_map ref_name (previous_of (env_at b env)) r r.name h refl)) (ap not e)

-- a planned model is listed, and what is listed is the name of one
pub listed_to : (all : List Planned) (p : Planned) → Has p all → is_listed all p.node.own.name ≡ true
listed_to [] p h = absurd h
listed_to (q ∷ qs) p (inl e) = ap (λ (b : Bool). b || is_listed qs p.node.own.name) ((Equal-is (name_cmp q.node.own.name p.node.own.name)).1 (ap (λ (k : Planned). name_cmp k.node.own.name p.node.own.name) e ∙ tied_itself names_total p.node.own.name))
listed_to (q ∷ qs) p (inr h) = go (same_name q.node.own.name p.node.own.name) (listed_to qs p h)
  where
    go : (b : Bool) → is_listed qs p.node.own.name ≡ true → (b || is_listed qs p.node.own.name) ≡ true
    go true more = refl
    go false more = more

pub listed_from : (all : List Planned) (n : Name) → is_listed all n ≡ true → (p : Planned) × Has p all × (p.node.own.name ≡ n)
listed_from [] n h = absurd (let clash : false ≡ true = h in cc)
listed_from (q ∷ qs) n h = go (same_name q.node.own.name n) refl h (listed_from qs n)
  where
    go : (b : Bool) → same_name q.node.own.name n ≡ b → (b || is_listed qs n) ≡ true → (is_listed qs n ≡ true → (p : Planned) × Has p qs × (p.node.own.name ≡ n)) → (p : Planned) × Has p (q ∷ qs) × (p.node.own.name ≡ n)
    go true e k more = (q, inl refl, names_exact q.node.own.name n ((Equal-is (name_cmp q.node.own.name n)).0 e))
    go false e k more = let (p, i, f) = more k in (p, inr i, f)

-- a proper project has each name once, and few models
has_its_node : (ps : List Planned) (q : Planned) (n : Name) → Has q ps → q.node.own.name ≡ n → has_node (map (λ (p : Planned). p.node) ps) n ≡ true
has_its_node [] q n h e = absurd h
has_its_node (p ∷ ps) q n (inl i) e =
    ap (λ (b : Bool). b || has_node (map (λ (r : Planned). r.node) ps) n) ((Equal-is (name_cmp p.node.own.name n)).1 (ap (λ (r : Planned). name_cmp r.node.own.name n) i ∙ ap (λ (m : Name). name_cmp m n) e ∙ tied_itself names_total n))
has_its_node (p ∷ ps) q n (inr i) e = go (is_eq (name_cmp p.node.own.name n)) (has_its_node ps q n i e)
  where
    go : (b : Bool) → has_node (map (λ (r : Planned). r.node) ps) n ≡ true → (b || has_node (map (λ (r : Planned). r.node) ps) n) ≡ true
    go true more = refl
    go false more = more

distinct_names : (ps : List Planned) → have_distinct_names (map (λ (p : Planned). p.node) ps) ≡ true → HaveNames ps
distinct_names [] h p q i j e = absurd i
distinct_names (r ∷ rs) h p q (inl i) (inl j) e = sym i ∙ j
distinct_names (r ∷ rs) h p q (inl i) (inr j) e =
    absurd (let clash : true ≡ false = sym (has_its_node rs q r.node.own.name j (sym e ∙ ap (λ (s : Planned). s.node.own.name) (sym i))) ∙ not_is _ (and_left _ _ h) in cc)
distinct_names (r ∷ rs) h p q (inr i) (inl j) e =
    absurd (let clash : true ≡ false = sym (has_its_node rs p r.node.own.name i (e ∙ ap (λ (s : Planned). s.node.own.name) (sym j))) ∙ not_is _ (and_left _ _ h) in cc)
distinct_names (r ∷ rs) h p q (inr i) (inr j) e = distinct_names rs (and_right (not (has_node (map (λ (s : Planned). s.node) rs) r.node.own.name)) _ h) p q i j e

length_mapped : (ps : List Planned) → length (map (λ (p : Planned). p.node) ps) ≡ length ps
length_mapped [] = refl
length_mapped (p ∷ ps) = ap suc (length_mapped ps)

module _ (nodes : List Node) (ps : List Planned) (are : map (λ (p : Planned). p.node) ps ≡ nodes) (proper : is_proper nodes ≡ true) where
  ranked_and_distinct : (ascends node_cmp node_itself nodes && (have_distinct_names nodes && are_fit nodes nodes)) ≡ true
  ranked_and_distinct = and_right (nat_le (length nodes) 4096) _ proper

  distinct : have_distinct_names nodes ≡ true
  distinct = and_left (have_distinct_names nodes) (are_fit nodes nodes) (and_right (ascends node_cmp node_itself nodes) _ ranked_and_distinct)

  pub proper_names : HaveNames ps
  proper_names = distinct_names ps (ap have_distinct_names are ∙ distinct)

  pub proper_few : length ps ≤ 4096
  proper_few = subst (λ (n : ℕ). n ≤ 4096) (ap length (sym are) ∙ length_mapped ps) (leb-true (length nodes) 4096 (and_left (nat_le (length nodes) 4096) _ proper))
