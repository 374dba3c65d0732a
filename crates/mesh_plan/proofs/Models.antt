-- The models of a plan, beside their nodes, closures and entries.
use Rattle.std.proofs.Common.{◌≡◌, ℕ, zero, suc, true, List, [], ◌∷◌, map, length, take, ◌++◌, Some, None, refl, sym, ◌∙◌, ap, subst, arith}
use Rattle.std.specs.List.{AllByRecursion, AllZip, slice_get}
use Rattle.std.specs.Option.{option_map}
use Rattle.std.specs.declared.option.Option.{Option}
use Rattle.std.proofs.lemmas.List.{length-map}
use Rattle.mesh_base_values.specs.declared.values.Name.{Name}
use Rattle.mesh_base.specs.declared.plans.Category.{Category}
use Rattle.mesh_base.specs.declared.plans.Entry.{Entry}
use Rattle.mesh_base.specs.declared.snapshots.Node.{Node}
use Rattle.mesh_base.specs.declared.snapshots.Ref.{Ref}
use Rattle.mesh_house_book.specs.declared.book.Book.{Book}
use Rattle.mesh_house_book.specs.WellFormed.{is_well_formed_book}
use Rattle.mesh_spec_model.specs.Closures.{Closure, closures, own_of}
use Rattle.mesh_spec_model.proofs.Listed.{one_each}
use Rattle.mesh_category.specs.category.Stated.{HaveCategories, IsCategoryAmong, stated as stated_all, stated_with}
use Rattle.mesh_spec_changes.specs.reuse.Categories.{HasCategory, Stated}
use Rattle.mesh_spec_changes.specs.listed.Listed.{is_list_fit, listed}
use Rattle.mesh_spec_changes.specs.due.Plans.{Planned, planned, planned_by}
use Rattle.mesh_spec_changes.specs.due.Versions.{version}
use Rattle.mesh_spec_changes.specs.Planning.{HasObject, compared_list, stated}
use Rattle.mesh_category.specs.versions.Clashes.{compared_in, versions}
use Rattle.mesh_category.proofs.versions.Steps.{have_as_many, take_got, versions_long}
use Rattle.mesh_plan.specs.Entries.{AreEntries, entries_of, entry_of}
use Rattle.mesh_plan.proofs.Beside.{counterpart_is}

-- as many entries as models
pub entries_long : (b : Book) (categories : List Category) (objects : List Name) → length categories ≡ length objects → length (entries_of b categories objects) ≡ length objects
entries_long b [] [] e = refl
entries_long b [] (o ∷ os) e = absurd (omega (arith, e))
entries_long b (k ∷ ks) [] e = absurd (omega (arith, e))
entries_long b (k ∷ ks) (o ∷ os) e = ap suc (entries_long b ks os (omega (arith, e)))

pub entry_at : (b : Book) (categories : List Category) (objects : List Name) (i : ℕ) (k : Category) (o : Name) → slice_get categories i ≡ Some k → slice_get objects i ≡ Some o → slice_get (entries_of b categories objects) i ≡ Some (entry_of b k o)
entry_at b [] objects i k o e f = absurd (let clash : None ≡ Some k = e in cc)
entry_at b (j ∷ ks) [] i k o e f = absurd (let clash : None ≡ Some o = f in cc)
entry_at b (j ∷ ks) (q ∷ os) zero k o e f =
    let same : j ≡ k = cc in
    let its : q ≡ o = cc in
    λ i. Some (entry_of b (same i) (its i))
entry_at b (j ∷ ks) (q ∷ os) (suc i) k o e f = entry_at b ks os i k o e f

-- one entry more
pub one_more_entry : (b : Book) (categories : List Category) (objects : List Name) (i next : ℕ) (k : Category) (o : Name) → next ≡ suc i → slice_get categories i ≡ Some k → slice_get objects i ≡ Some o
    → (made new : List Entry) (entry : Entry) → made ≡ take i (entries_of b categories objects) → new ≡ made ++ entry ∷ [] → entry ≡ entry_of b k o → new ≡ take next (entries_of b categories objects)
one_more_entry b categories objects i next k o e is its made new entry was more here =
    more ∙ (λ j. was j ++ here j ∷ []) ∙ sym (take_got (entries_of b categories objects) i next (entry_of b k o) e (entry_at b categories objects i k o is its))

-- as many of each as models
pub as_many_objects : (b : Book) (base : List Ref) (nodes : List Node) (categories : List Category) (objects : List Name) → HaveCategories (listed b.snapshots base) nodes categories → map Some objects ≡ versions b.snapshots base nodes categories
    → (length categories ≡ length nodes) × (length objects ≡ length nodes)
as_many_objects b base nodes categories objects have named =
    let ks : length categories ≡ length nodes = have_as_many (listed b.snapshots base) nodes categories have in
    (ks, sym (length-map objects Some) ∙ ap length named ∙ versions_long b.snapshots base nodes categories ks)

pub as_many : (b : Book) (base : List Ref) (nodes : List Node) (es : List Entry) → AreEntries b base nodes es → length es ≡ length nodes
as_many b base nodes es are =
    let both = as_many_objects b base nodes are.categories are.objects are.have are.named in
    ap length are.are ∙ entries_long b are.categories are.objects (both.0 ∙ sym both.1) ∙ both.1

pub closures_long : (nodes : List Node) → length (closures nodes) ≡ length nodes
closures_long nodes = sym (length-map (closures nodes) own_of) ∙ ap length (one_each nodes) ∙ length-map nodes (λ (n : Node). n.own)

-- the nodes and the closures of the models
nodes_by : (ns : List Node) (cs : List Closure) (es : List Entry) → length cs ≡ length ns → length es ≡ length ns → map (λ (p : Planned). p.node) (planned_by ns cs es) ≡ ns
nodes_by [] cs es e f = refl
nodes_by (n ∷ ns) [] es e f = absurd (omega (arith, e))
nodes_by (n ∷ ns) (c ∷ cs) [] e f = absurd (omega (arith, f))
nodes_by (n ∷ ns) (c ∷ cs) (x ∷ es) e f = ap (λ (l : List Node). n ∷ l) (nodes_by ns cs es (omega (arith, e)) (omega (arith, f)))

closures_by : (ns : List Node) (cs : List Closure) (es : List Entry) → length cs ≡ length ns → length es ≡ length ns → map (λ (p : Planned). p.closure) (planned_by ns cs es) ≡ cs
closures_by [] [] es e f = refl
closures_by [] (c ∷ cs) es e f = absurd (omega (arith, e))
closures_by (n ∷ ns) [] es e f = absurd (omega (arith, e))
closures_by (n ∷ ns) (c ∷ cs) [] e f = absurd (omega (arith, f))
closures_by (n ∷ ns) (c ∷ cs) (x ∷ es) e f = ap (λ (l : List Closure). c ∷ l) (closures_by ns cs es (omega (arith, e)) (omega (arith, f)))

pub nodes_are : (nodes : List Node) (es : List Entry) → length es ≡ length nodes → map (λ (p : Planned). p.node) (planned nodes es) ≡ nodes
nodes_are nodes es f = nodes_by nodes (closures nodes) es (closures_long nodes) f

pub closures_are : (nodes : List Node) (es : List Entry) → length es ≡ length nodes → map (λ (p : Planned). p.closure) (planned nodes es) ≡ closures nodes
closures_are nodes es f = closures_by nodes (closures nodes) es (closures_long nodes) f

-- each model's object goes by its category
module _ (b : Book) (env : List ℕ) (well : is_well_formed_book b ≡ true) (fit : is_list_fit b.snapshots (compared_list b env) ≡ true) where
  abbrev base : List Ref
  base = compared_list b env

  one_object : (n : Node) (c : Closure) (k : Category) (o : Name) → own_of c ≡ n.own → IsCategoryAmong (stated_all (listed b.snapshots base)) (record { fingerprint = n.fingerprint; closure = c }) k
      → Some o ≡ version b.snapshots (compared_in b.snapshots base n.own.name) k n → HasObject b env (record { node = n; closure = c; object = o })
  one_object n c k o own has named = record {
    category = k;
    is =
        subst (λ (s : Option Stated). HasCategory s (record { fingerprint = n.fingerprint; closure = c }) k)
        (counterpart_is b base well fit (own_of c).name ∙ ap (λ (x : Name). option_map (stated b) (compared_in b.snapshots base x)) (ap (λ o. o.name) own)) has.0;
    object = sym named;
  }

  objects_by : (ns : List Node) (cs : List Closure) (ks : List Category) (os : List Name) → map own_of cs ≡ map (λ (n : Node). n.own) ns
      → AllZip (IsCategoryAmong (stated_all (listed b.snapshots base))) (stated_with ns cs) ks → map Some os ≡ versions b.snapshots base ns ks
      → AllByRecursion (HasObject b env) (planned_by ns cs (entries_of b ks os))
  objects_by [] cs ks os owns have named = tt
  objects_by (n ∷ ns) [] ks os owns have named = tt
  objects_by (n ∷ ns) (c ∷ cs) [] os owns have named = absurd have
  objects_by (n ∷ ns) (c ∷ cs) (k ∷ ks) [] owns have named = tt
  objects_by (n ∷ ns) (c ∷ cs) (k ∷ ks) (o ∷ os) owns have named =
      let own : own_of c ≡ n.own = cc in
      let rest : map own_of cs ≡ map (λ (n : Node). n.own) ns = cc in
      let first : Some o ≡ version b.snapshots (compared_in b.snapshots base n.own.name) k n = cc in
      let more : map Some os ≡ versions b.snapshots base ns ks = cc in
      (one_object n c k o own have.0 first, objects_by ns cs ks os rest have.1 more)

  pub objects_are : (nodes : List Node) (es : List Entry) → AreEntries b base nodes es → AllByRecursion (HasObject b env) (planned nodes es)
  objects_are nodes es are =
      subst (λ (x : List Entry). AllByRecursion (HasObject b env) (planned nodes x)) (sym are.are)
      (objects_by nodes (closures nodes) are.categories are.objects (one_each nodes) are.have are.named)
