-- The models among some names: each stands at its place, they ascend, and none of those that are there is missing.
use Rattle.std.proofs.Common.{◌≡◌, ℕ, suc, Bool, true, false, ◌||◌, cond, List, [], ◌∷◌, map, fold, Option, None, Some, refl, sym, ap, ◌∙◌, subst}
use Rattle.std.specs.List.{AllByRecursion, slice_get}
use Rattle.std.specs.Option.{is_some, option_map}
use Rattle.std.specs.Cmp.{tied_itself}
use Rattle.std.specs.Ordering.{is_eq}
use Rattle.std.specs.declared.cmp.Ordering.{Ordering}
use Rattle.std.specs.declared.cmp.Ordering.TheVariants.{Less, Equal, Greater}
use Rattle.std.proofs.lemmas.Bool.{or_right as or_true}
use Rattle.mesh_list.specs.Keyed.{ascends, found, placed, put_by}
use Rattle.mesh_list.proofs.Ascends.{ascends-placed}
use Rattle.mesh_list.proofs.Found.{found-placed}
use Rattle.mesh_base_values.specs.NameOrder.{names_exact, names_total}
use Rattle.mesh_base_values.specs.Names.{name_cmp}
use Rattle.mesh_base_values.specs.declared.values.Name.{Name}
use Rattle.mesh_base_values.proofs.Equals.{name_is}
use Rattle.mesh_base.specs.declared.snapshots.Node.{Node}
use Rattle.mesh_base.specs.rules.Proper.{is_among}
use Rattle.mesh_project.specs.declared.nodes.earlier.Place.{Place}
use Rattle.mesh_project.specs.nodes.Earlier.{named, node_name, noted, place_name, place_of, put_at}

abbrev pub names_of : List Node → List Name
names_of nodes = map node_name nodes

-- a name has a place where a model has it
pub place_is_there : (nodes : List Node) (name : Name) → is_some (place_of nodes name) ≡ is_among (names_of nodes) name
place_is_there [] name = refl
place_is_there (n ∷ ns) name = by_first (is_eq (name_cmp n.own.name name)) (place_of ns name) (is_among (names_of ns) name) (place_is_there ns name)
  where
    by_first : (b : Bool) (o : Option ℕ) (t : Bool) → is_some o ≡ t → is_some (cond b (Some 0) (option_map suc o)) ≡ (b || t)
    by_first true o t more = refl
    by_first false None t more = more
    by_first false (Some i) t more = more

-- a model stands at a place and has this name
abbrev pub IsAt : List Node → ℕ → Name → Type 0
IsAt nodes at name = (n : Node) × (slice_get nodes at ≡ Some n) × (n.own.name ≡ name)

pub at_place_of : (nodes : List Node) (name : Name) (at : ℕ) → place_of nodes name ≡ Some at → IsAt nodes at name
at_place_of [] name at e = absurd (cc)
at_place_of (n ∷ ns) name at e = by_first (is_eq (name_cmp n.own.name name)) (place_of ns name) refl (λ k f. at_place_of ns name k f) e
  where
    by_first : (b : Bool) (o : Option ℕ) → is_eq (name_cmp n.own.name name) ≡ b → ((k : ℕ) → o ≡ Some k → IsAt ns k name) → cond b (Some 0) (option_map suc o) ≡ Some at → IsAt (n ∷ ns) at name
    by_first true o is more h = let here : 0 ≡ at = cc in (n, subst (λ (k : ℕ). slice_get (n ∷ ns) k ≡ Some n) here refl, name_is n.own.name name is)
    by_first false None is more h = absurd (cc)
    by_first false (Some i) is more h =
        let rest = more i refl in
        let here : suc i ≡ at = cc in
        (rest.0, subst (λ (k : ℕ). slice_get (n ∷ ns) k ≡ Some rest.0) here rest.1, rest.2)

module _ (P : Place → Type 0) (y : Place) (here : P y) where
  pub each_placed : (xs : List Place) → AllByRecursion P xs → AllByRecursion P (placed name_cmp place_name y xs)
  each_placed [] all = (here, tt)
  each_placed (x ∷ xs) all = by_order (name_cmp x.name y.name) (each_placed xs all.1)
    where
      by_order : (o : Ordering) → AllByRecursion P (placed name_cmp place_name y xs) → AllByRecursion P (put_by o x y xs (placed name_cmp place_name y xs))
      by_order Less more = (all.0, more)
      by_order Equal more = (here, all.1)
      by_order Greater more = (here, all)

module _ (nodes : List Node) where
  -- they ascend by name
  put_ascends : (name : Name) (o : Option ℕ) (made : List Place) → ascends name_cmp place_name made ≡ true → ascends name_cmp place_name (put_at name o made) ≡ true
  put_ascends name None made h = h
  put_ascends name (Some at) made h = ascends-placed name_cmp names_total place_name (record { name = name; at = at }) made h

  all_ascend : (names : List Name) (made : List Place) → ascends name_cmp place_name made ≡ true → ascends name_cmp place_name (fold (noted nodes) made names) ≡ true
  all_ascend [] made h = h
  all_ascend (n ∷ ns) made h = all_ascend ns (noted nodes made n) (put_ascends n (place_of nodes n) made h)

  pub named_ascend : (names : List Name) → ascends name_cmp place_name (named nodes names) ≡ true
  named_ascend names = all_ascend names [] refl

  module _ (all : List Name) where
    -- each is one of the models, and one of the names
    abbrev pub Stands : Place → Type 0
    Stands p = IsAt nodes p.at p.name × (is_among all p.name ≡ true)

    put_stands : (name : Name) (o : Option ℕ) (made : List Place) → place_of nodes name ≡ o → is_among all name ≡ true → AllByRecursion Stands made → AllByRecursion Stands (put_at name o made)
    put_stands name None made e among h = h
    put_stands name (Some at) made e among h = each_placed Stands (record { name = name; at = at }) (at_place_of nodes name at e, among) made h

    all_stand : (names : List Name) (made : List Place) → AllByRecursion (λ n. is_among all n ≡ true) names → AllByRecursion Stands made → AllByRecursion Stands (fold (noted nodes) made names)
    all_stand [] made among h = h
    all_stand (n ∷ ns) made among h = all_stand ns (noted nodes made n) among.1 (put_stands n (place_of nodes n) made refl among.0 h)

  -- none is missing
  module _ (name : Name) (at : ℕ) (there : place_of nodes name ≡ Some at) where
    abbrev IsIn : List Place → Type 0
    IsIn made = found name_cmp place_name name made ≡ Some (record { name = name; at = at })

    found_put : (other : Name) (k : ℕ) (made : List Place) → found name_cmp place_name name (placed name_cmp place_name (record { name = other; at = k }) made)
        ≡ cond (is_eq (name_cmp other name)) (Some (record { name = other; at = k })) (found name_cmp place_name name made)
    found_put other k made = found-placed name_cmp names_exact place_name (record { name = other; at = k }) name made

    put_here : (other : Name) (o : Option ℕ) (made : List Place) → place_of nodes other ≡ o → is_eq (name_cmp other name) ≡ true → IsIn (put_at other o made)
    put_here other None made e is = absurd (let clash : Some at ≡ None = sym there ∙ ap (place_of nodes) (sym (name_is other name is)) ∙ e in cc)
    put_here other (Some k) made e is =
        let same : other ≡ name = name_is other name is in
        let both : Some k ≡ Some at = sym e ∙ ap (place_of nodes) same ∙ there in
        let k_is : k ≡ at = cc in
        let p : Place = record { name = other; at = k } in
        let p_is : p ≡ record { name = name; at = at } = λ i. record { name = same i; at = k_is i } in
        found_put other k made ∙ ap (λ (b : Bool). cond b (Some p) (found name_cmp place_name name made)) is ∙ ap Some p_is

    put_on : (other : Name) (o : Option ℕ) (made : List Place) → place_of nodes other ≡ o → IsIn made → IsIn (put_at other o made)
    put_on other None made e h = h
    put_on other (Some k) made e h = by_name (is_eq (name_cmp other name)) refl
      where
        by_name : (b : Bool) → is_eq (name_cmp other name) ≡ b → IsIn (put_at other (Some k) made)
        by_name true is = put_here other (Some k) made e is
        by_name false is = found_put other k made ∙ ap (λ (b : Bool). cond b (Some (record { name = other; at = k })) (found name_cmp place_name name made)) is ∙ h

    stays_in : (names : List Name) (made : List Place) → IsIn made → IsIn (fold (noted nodes) made names)
    stays_in [] made h = h
    stays_in (n ∷ ns) made h = stays_in ns (noted nodes made n) (put_on n (place_of nodes n) made refl h)

    gets_in : (names : List Name) (made : List Place) → is_among names name ≡ true → IsIn (fold (noted nodes) made names)
    gets_in [] made among = absurd (cc)
    gets_in (n ∷ ns) made among = by_name (is_eq (name_cmp n name)) refl (λ h. gets_in ns (noted nodes made n) h) among
      where
        by_name : (b : Bool) → is_eq (name_cmp n name) ≡ b → (is_among ns name ≡ true → IsIn (fold (noted nodes) (noted nodes made n) ns)) → (b || is_among ns name) ≡ true → IsIn (fold (noted nodes) (noted nodes made n) ns)
        by_name true is more h = stays_in ns (noted nodes made n) (put_here n (place_of nodes n) made refl is)
        by_name false is more h = more h

  pub named_found : (names : List Name) (name : Name) (at : ℕ) → place_of nodes name ≡ Some at → is_among names name ≡ true → found name_cmp place_name name (named nodes names) ≡ Some (record { name = name; at = at })
  named_found names name at there among = gets_in name at there names [] among

-- each name is among them

among_more : (ns : List Name) (n : Name) (xs : List Name) → AllByRecursion (λ x. is_among ns x ≡ true) xs → AllByRecursion (λ x. is_among (n ∷ ns) x ≡ true) xs
among_more ns n [] all = tt
among_more ns n (x ∷ xs) all = (or_true (is_eq (name_cmp n x)) (is_among ns x) all.0, among_more ns n xs all.1)

pub each_among : (ns : List Name) → AllByRecursion (λ n. is_among ns n ≡ true) ns
each_among [] = tt
each_among (n ∷ ns) = (ap (λ (b : Bool). b || is_among ns n) (ap is_eq (tied_itself names_total n)), among_more ns n ns (each_among ns))

pub named_stand : (nodes : List Node) (names : List Name) → AllByRecursion (Stands nodes names) (named nodes names)
named_stand nodes names = all_stand nodes names names [] (each_among names) tt
