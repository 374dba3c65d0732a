-- References and objects, one after another.
use Rattle.std.specs.Prelude.{IfOk}
use Rattle.std.proofs.Common.{◌≡◌, ℕ, true, Ok, Err, Result, zero, suc, List, [], ◌∷◌, ◌++◌, map, length, take, Some, None, refl, sym, ◌∙◌, ap, arith, append_assoc}
use Rattle.std.specs.List.{All, AllZip, flat_map, slice_get}
use Rattle.std.specs.Option.{is_some, option_and_then, option_map, option_to_list}
use Rattle.std.specs.declared.option.Option.{Option}
use Rattle.std.proofs.lemmas.List.{append-nil, map-append, length-map}
use Rattle.std.proofs.lemmas.List.Elements.{All-append, All-cons, All-nil, All-same}
use Rattle.mesh_list.specs.Keyed.{found}
use Rattle.mesh_base_values.specs.Names.{name_cmp}
use Rattle.mesh_base_values.specs.NameOrder.{names_exact}
use Rattle.mesh_base_values.specs.declared.values.Name.{Name}
use Rattle.mesh_base.specs.Keys.{ref_name}
use Rattle.mesh_base.specs.declared.plans.Category.{Category}
use Rattle.mesh_base.specs.declared.snapshots.Node.{Node}
use Rattle.mesh_base.specs.declared.snapshots.Ref.{Ref}
use Rattle.mesh_base.specs.declared.snapshots.Snapshot.{Snapshot}
use Rattle.mesh_house_book.specs.WellFormed.{snapshot_at}
use Rattle.mesh_house_book.proofs.Exchanged.{found_key}
use Rattle.mesh_category.specs.category.Stated.{HaveCategories, stated, stated_with}
use Rattle.mesh_spec_model.specs.Closures.{Closure, closures, own_of}
use Rattle.mesh_spec_model.proofs.Listed.{one_each}
use Rattle.mesh_spec_changes.specs.due.Versions.{node_ref, version}
use Rattle.mesh_category.specs.declared.versions.faults.PlanFault.{PlanFault}
use Rattle.mesh_category.specs.declared.versions.faults.PlanFault.TheVariants.{Model, Moment, EnvUnknown, EnvPending, Memory}
use Rattle.mesh_category.specs.versions.Clashes.{IsAlone, Refuses, RefusesModel, compared_in, refs_at, versions}
use Rattle.mesh_category.specs.versions.Index.{listed_print, ref_print}

-- what an answer is, by what it was first told to be
pub turned : {A E : Type 0} (P Q : A → Type 0) (r : Result A E) → ((x : A) → P x → Q x) → IfOk r P → IfOk r Q
turned P Q (Ok x) f is = f x is
turned P Q (Err e) f is = tt

-- one reference more
first_ref : (nodes : List Node) (p : ℕ) (places : List ℕ) → refs_at nodes (p ∷ places) ≡ map node_ref (option_to_list (slice_get nodes p)) ++ refs_at nodes places
first_ref nodes p places = map-append node_ref (option_to_list (slice_get nodes p)) (flat_map (λ i. option_to_list (slice_get nodes i)) places)

pub one_more_ref : (nodes : List Node) (places : List ℕ) (place : ℕ) → refs_at nodes (places ++ place ∷ []) ≡ refs_at nodes places ++ map node_ref (option_to_list (slice_get nodes place))
one_more_ref nodes [] place = first_ref nodes place [] ∙ append-nil (map node_ref (option_to_list (slice_get nodes place)))
one_more_ref nodes (p ∷ places) place =
    let here = map node_ref (option_to_list (slice_get nodes p)) in
    first_ref nodes p (places ++ place ∷ [])
    ∙ ap (λ (l : List Ref). here ++ l) (one_more_ref nodes places place)
    ∙ sym (append_assoc here (refs_at nodes places) (map node_ref (option_to_list (slice_get nodes place))))
    ∙ ap (λ (l : List Ref). l ++ map node_ref (option_to_list (slice_get nodes place))) (sym (first_ref nodes p places))

-- the snapshot that a list has of a model, by its name and the fingerprint there
pub compared_is : (all : List Snapshot) (base : List Ref) (name : Name) (print : List ℕ) → listed_print base name ≡ Some print
    → snapshot_at all (record { name = name; fingerprint = print }) ≡ compared_in all base name
compared_is all base name print e = go (found name_cmp ref_name name base) refl e
  where
    go : (o : Option Ref) → found name_cmp ref_name name base ≡ o → option_map ref_print o ≡ Some print
        → snapshot_at all (record { name = name; fingerprint = print }) ≡ option_and_then (snapshot_at all) o
    go None f p = let clash : None ≡ Some print = p in absurd (cc)
    go (Some r) f p =
        let prints : r.fingerprint ≡ print = cc in
        let names : r.name ≡ name = found_key name_cmp ref_name names_exact name r base f in
        ap (snapshot_at all) (λ i. record { name = sym names i; fingerprint = sym prints i })

-- what stands at a place is what comes next
pub take_got : {X : Type 0} (xs : List X) (i j : ℕ) (x : X) → j ≡ suc i → slice_get xs i ≡ Some x → take j xs ≡ take i xs ++ x ∷ []
take_got {X} xs i j x next e = ap (λ (k : ℕ). take k xs) next ∙ go xs i e
  where
    go : (ys : List X) (k : ℕ) → slice_get ys k ≡ Some x → take (suc k) ys ≡ take k ys ++ x ∷ []
    go [] k f = absurd (let clash : None ≡ Some x = f in cc)
    go (y ∷ ys) zero f = let same : y ≡ x = cc in ap (λ (z : X). z ∷ []) same
    go (y ∷ ys) (suc k) f = ap (λ (l : List X). y ∷ l) (go ys k f)

pub version_at : (all : List Snapshot) (base : List Ref) (nodes : List Node) (categories : List Category) (i : ℕ) (n : Node) (k : Category) → slice_get nodes i ≡ Some n → slice_get categories i ≡ Some k
    → slice_get (versions all base nodes categories) i ≡ Some (version all (compared_in all base n.own.name) k n)
version_at all base [] categories i n k e f = absurd (let clash : None ≡ Some n = e in cc)
version_at all base (m ∷ ns) [] i n k e f = absurd (let clash : None ≡ Some k = f in cc)
version_at all base (m ∷ ns) (j ∷ ks) zero n k e f =
    let same : m ≡ n = cc in
    let its : j ≡ k = cc in
    λ i. Some (version all (compared_in all base (same i).own.name) (its i) (same i))
version_at all base (m ∷ ns) (j ∷ ks) (suc i) n k e f = version_at all base ns ks i n k e f

-- a project has as many categories as models
pub have_as_many : (compared nodes : List Node) (categories : List Category) → HaveCategories compared nodes categories → length categories ≡ length nodes
have_as_many compared nodes categories have = sym (zipped _ (stated nodes) categories have) ∙ stated_long nodes (closures nodes) (sym (length-map (closures nodes) own_of) ∙ ap length (one_each nodes) ∙ length-map nodes (λ (n : Node). n.own))
  where
    zipped : {A B : Type 0} (R : A → B → Type 0) (xs : List A) (ys : List B) → AllZip R xs ys → length xs ≡ length ys
    zipped R [] [] h = refl
    zipped R [] (y ∷ ys) h = absurd h
    zipped R (x ∷ xs) [] h = absurd h
    zipped R (x ∷ xs) (y ∷ ys) h = ap suc (zipped R xs ys h.1)

    stated_long : (ns : List Node) (cs : List Closure) → length cs ≡ length ns → length (stated_with ns cs) ≡ length ns
    stated_long [] cs e = refl
    stated_long (n ∷ ns) [] e = absurd (omega (arith, e))
    stated_long (n ∷ ns) (c ∷ cs) e = ap suc (stated_long ns cs (omega (arith, e)))

pub versions_long : (all : List Snapshot) (base : List Ref) (nodes : List Node) (categories : List Category) → length categories ≡ length nodes → length (versions all base nodes categories) ≡ length nodes
versions_long all base [] categories e = refl
versions_long all base (n ∷ ns) [] e = absurd (omega (arith, e))
versions_long all base (n ∷ ns) (k ∷ ks) e = ap suc (versions_long all base ns ks (omega (arith, e)))

-- one object more
module _ (all : List Snapshot) (base : List Ref) (nodes : List Node) (categories : List Category) (at : ℕ) (n : Node) (k : Category) (is : slice_get nodes at ≡ Some n) (its : slice_get categories at ≡ Some k) where
  abbrev so_far : List (Option Name)
  so_far = take at (versions all base nodes categories)

  pub one_more_object : (made new : List Name) (name : Name) (next : ℕ) → next ≡ suc at → map Some made ≡ so_far → new ≡ made ++ name ∷ [] → version all (compared_in all base n.own.name) k n ≡ Some name
      → map Some new ≡ take next (versions all base nodes categories)
  one_more_object made new name next e was more object =
      ap (map Some) more
      ∙ map-append Some made (name ∷ [])
      ∙ (λ i. was i ++ sym object i ∷ [])
      ∙ sym (take_got (versions all base nodes categories) at next (version all (compared_in all base n.own.name) k n) e (version_at all base nodes categories at n k is its))

  pub one_more_alone : (next : ℕ) → next ≡ suc at → All (IsAlone all nodes) (take at nodes) → IsAlone all nodes n → All (IsAlone all nodes) (take next nodes)
  one_more_alone next e was here =
      All-same (IsAlone all nodes) (take next nodes) (take at nodes ++ n ∷ []) (take_got nodes at next n e is)
      (All-append (IsAlone all nodes) (take at nodes) (n ∷ []) was (All-cons (IsAlone all nodes) n [] here (All-nil (IsAlone all nodes))))

  all_there : (made : List Name) → All (λ (o : Option Name). is_some o ≡ true) (map Some made)
  all_there [] = All-nil (λ (o : Option Name). is_some o ≡ true)
  all_there (name ∷ made) = All-cons (λ (o : Option Name). is_some o ≡ true) (Some name) (map Some made) refl (all_there made)

  pub first_clash : (made : List Name) → map Some made ≡ so_far → All (IsAlone all nodes) (take at nodes) → (fault : PlanFault) → RefusesModel all nodes base k n fault → Refuses all nodes base categories fault
  first_clash made was alone (Model name kind) (stored, clashes, named, said) = record {
    at = at;
    model = n;
    category = k;
    stored = stored;
    is = is;
    its = its;
    clashes = clashes;
    alone = alone;
    placed = All-same (λ (o : Option Name). is_some o ≡ true) so_far (map Some made) (sym was) (all_there made);
    named = named;
    said = said;
  }
  first_clash made was alone (Moment given kept) r = r
  first_clash made was alone EnvUnknown r = r
  first_clash made was alone EnvPending r = r
  first_clash made was alone Memory r = r
