-- Names, and the places of models by their names.
use Rattle.std.proofs.Common.{◌≡◌, ℕ, zero, suc, ◌+◌, ◌<◌, Bool, true, false, not, cond, ◌||◌, List, [], ◌∷◌, ◌++◌, length, take, get_or, refl, ap, sym, ◌∙◌, arith, rules, length-take}
use Rattle.std.specs.List.{slice_get}
use Rattle.std.specs.List.Sorted.{IsSortedBy}
use Rattle.std.specs.Option.{is_none}
use Rattle.std.specs.Ordering.{is_eq, is_lt}
use Rattle.std.specs.BTreeMap.{BTreeMap, Updates, get}
use Rattle.std.specs.Cmp.{Equal-is}
use Rattle.std.specs.declared.cmp.Ordering.TheVariants.{Equal}
use Rattle.std.specs.declared.option.Option.{Option}
use Rattle.std.specs.declared.option.Option.TheVariants.{None, Some}
use Rattle.std.proofs.lemmas.List.{take_more, map-append}
use Rattle.std.proofs.lemmas.List.Elements.{filter-append}
use Rattle.std.proofs.lemmas.List.Folds.{list_any-append}
use Rattle.std.proofs.lemmas.List.Sorted.{sorted_far, ranks_by}
use Rattle.mesh_base_values.specs.declared.values.Name.{Name}
use Rattle.mesh_base_values.specs.contracts.values.NameOrd.TheImpl.{cmp-value}
use Rattle.mesh_base_values.specs.Names.{name_cmp}
use Rattle.mesh_base_values.specs.NameOrder.{names_total}
use Rattle.mesh_base_values.proofs.Equals.{name_is as same_names}
use Rattle.mesh_base.specs.declared.snapshots.Node.{Node}
use Rattle.mesh_base.specs.rules.Proper.{has_node}
use Rattle.mesh_spec_changes.specs.reuse.Categories.{is_among, removed}
use Rattle.mesh_category.specs.category.Gone.{IsAscending, IsPlaceOf, name_of, names_of}

order_is : (a b : Name) → cmp-value.it a b ≡ name_cmp a b
order_is a b = refl

pub get_left : {X : Type 0} (xs ys : List X) (k : ℕ) (x : X) → slice_get xs k ≡ Some x → slice_get (xs ++ ys) k ≡ Some x
get_left [] ys k x e = absurd (cc)
get_left (x ∷ xs) ys zero y e = e
get_left (x ∷ xs) ys (suc k) y e = get_left xs ys k y e

pub get_last : {X : Type 0} (xs : List X) (x : X) (k : ℕ) → k ≡ length xs → slice_get (xs ++ x ∷ []) k ≡ Some x
get_last [] x zero e = refl
get_last [] x (suc k) e = absurd (omega (arith, e))
get_last (y ∷ xs) x zero e = absurd (omega (arith, e))
get_last (y ∷ xs) x (suc k) e = get_last xs x k (omega (arith, e))

no_places : (name : Name) → IsPlaceOf [] name None
no_places name = refl

-- one model more
module _ (nodes : List Node) (i : ℕ) (n : Node) (lt : i < length nodes) (here : n ≡ get_or nodes i n) where
  abbrev before : List Node
  before = take i nodes

  with_it : take (i + 1) nodes ≡ before ++ n ∷ []
  with_it = take_more nodes i n lt ∙ ap (λ m. before ++ m ∷ []) (sym here)

  place_there : (name : Name) (o : Option ℕ) (b : Bool) → is_eq (name_cmp n.own.name name) ≡ b → IsPlaceOf before name o → IsPlaceOf (before ++ n ∷ []) name (cond b (Some i) o)
  place_there name o true e h = (n, get_last before n i (omega (arith, length-take i nodes)), same_names n.own.name name e)
  place_there name None false e h = list_any-append (λ (m : Node). is_eq (name_cmp m.own.name name)) before (n ∷ []) ∙ (λ k. h k || (e k || false))
  place_there name (Some j) false e h = (h.0, get_left before (n ∷ []) j h.0 h.1, h.2)

  pub one_more_place : (key : Name) (old new : BTreeMap Name ℕ) → key ≡ n.own.name → Updates name_cmp old new key (Some i)
      → ((name : Name) → IsPlaceOf before name (get name_cmp old name)) → (name : Name) → IsPlaceOf (take (i + 1) nodes) name (get name_cmp new name)
  one_more_place key old new same updates h name =
      rw (with_it, updates.0 name, same) (place_there name (get name_cmp old name) (is_eq (name_cmp n.own.name name)) refl (h name))

-- no model of a name
among_names : (nodes : List Node) (name : Name) → is_among (names_of nodes) name ≡ has_node nodes name
among_names [] name = refl
among_names (n ∷ nodes) name = ap (λ b. is_eq (name_cmp n.own.name name) || b) (among_names nodes name)

pub equal_itself : (x : Name) → name_cmp x x ≡ Equal
equal_itself x = search (rules, names_total)

pub has_at : (nodes : List Node) (k : ℕ) (n : Node) (name : Name) → slice_get nodes k ≡ Some n → n.own.name ≡ name → has_node nodes name ≡ true
has_at [] k n name e same = absurd (cc)
has_at (m ∷ nodes) zero n name e same =
    let first : m ≡ n = cc in
    let equal : is_eq (name_cmp m.own.name name) ≡ true = (Equal-is (name_cmp m.own.name name)).1 (ap (λ (x : Node). name_cmp x.own.name name) first ∙ ap (λ x. name_cmp x name) same ∙ equal_itself name) in
    ap (λ b. b || has_node nodes name) equal
has_at (m ∷ nodes) (suc k) n name e same = go (is_eq (name_cmp m.own.name name)) (has_at nodes k n name e same)
  where
    go : (b : Bool) → has_node nodes name ≡ true → (b || has_node nodes name) ≡ true
    go true h = refl
    go false h = h

pub none_of_name : (nodes : List Node) (name : Name) (o : Option ℕ) → IsPlaceOf nodes name o → is_none o ≡ not (is_among (names_of nodes) name)
none_of_name nodes name None h = ap not (sym (among_names nodes name ∙ h))
none_of_name nodes name (Some k) h = ap not (sym (among_names nodes name ∙ has_at nodes k h.0 name h.1 h.2))

-- one old model more
pub one_more_gone : (olds news : List Node) (i : ℕ) (n : Node) → i < length olds → n ≡ get_or olds i n
    → removed (names_of (take (i + 1) olds)) (names_of news) ≡ removed (names_of (take i olds)) (names_of news) ++ cond (not (is_among (names_of news) n.own.name)) (n.own.name ∷ []) []
one_more_gone olds news i n lt here =
    ap (λ l. removed (names_of l) (names_of news)) (take_more olds i n lt ∙ ap (λ m. take i olds ++ m ∷ []) (sym here))
    ∙ ap (λ l. removed l (names_of news)) (map-append name_of (take i olds) (n ∷ []))
    ∙ filter-append (λ name. not (is_among (names_of news) name)) (names_of (take i olds)) (n.own.name ∷ [])

pub gone_so_far : (olds news : List Node) (i : ℕ) (n : Node) → i < length olds → n ≡ get_or olds i n → (o : Option ℕ) → IsPlaceOf news n.own.name o
    → (b : Bool) → is_none o ≡ b → (made new : List Name) → made ≡ removed (names_of (take i olds)) (names_of news) → new ≡ made ++ cond b (n.own.name ∷ []) [] → new ≡ removed (names_of (take (i + 1) olds)) (names_of news)
gone_so_far olds news i n lt here o place b none made new was is =
    is ∙ (λ k. was k ++ cond ((sym none ∙ none_of_name news n.own.name o place) k) (n.own.name ∷ []) []) ∙ sym (one_more_gone olds news i n lt here)

-- what a sort leaves
pub ascending_from_sort : (names : List Name) → IsSortedBy (λ x y. is_lt (cmp-value.it x y)) names → IsAscending names
ascending_from_sort names up = sorted_far _ (ranks_by names_total (λ x. x)) names up
