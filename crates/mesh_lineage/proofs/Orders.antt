-- Readings in order: the same for lists with the same items, and of a list that ascends the list itself.
use Rattle.std.proofs.Common.{◌≡◌, Bool, true, false, cond, inl, inr, ℕ, List, [], ◌∷◌, Some, None, refl, sym, ap, ◌∙◌, subst}
use Rattle.std.specs.declared.cmp.Ordering.{Ordering}
use Rattle.std.specs.declared.cmp.Ordering.TheVariants.{Less, Equal, Greater}
use Rattle.std.specs.declared.option.Option.{Option}
use Rattle.std.specs.Ordering.{is_eq, is_lt, ordering_reverse, ordering_then}
use Rattle.std.specs.BTreeSet.{BTreeSet, IsFromIterResult}
use Rattle.std.specs.List.{AllByRecursion}
use Rattle.std.specs.List.Sorted.{IsStrictlySortedBy}
use Rattle.std.specs.Cmp.{IsTotalOrder}
use Rattle.std.proofs.lemmas.Cmp.{on_total, then_total, tied_itself}
use Rattle.std.proofs.lemmas.Map.Keys.{sorted_head, sorted_tail}
use Rattle.std.proofs.lemmas.Map.Lookups.{exact_bytes, exact_pairs, CmpEqualImpliesEq}
use Rattle.std.proofs.lemmas.Bool.{and_from as and_both}
use Rattle.mesh_list.specs.Keyed.{ascends, below_first, found, placed, put_by}
use Rattle.mesh_list.proofs.Ascends.{and_left, and_right, ascends-placed}
use Rattle.mesh_list.proofs.Each.{found-above, found-behind, found-itself, lt_is}
use Rattle.mesh_list.proofs.Found.{found-placed}
use Rattle.mesh_base_values.specs.declared.values.Name.{Name}
use Rattle.mesh_base_values.specs.Names.{name_cmp, text_cmp}
use Rattle.mesh_base_values.specs.NameOrder.{names_exact, names_total, texts_total, then_equal}
use Rattle.mesh_base_values.proofs.Equals.{equal_of as equal_is}
use Rattle.mesh_base.specs.declared.definitions.Reading.{Reading}
use Rattle.mesh_law_query.specs.Reads.{in_order, reading_cmp, reading_itself}
use Rattle.mesh_law_query.proofs.Has.{Has}
use Rattle.mesh_lineage.specs.Alike.{IsAlike}
use Rattle.mesh_lineage.specs.Pairs.{as_reading, as_readings}
use Rattle.mesh_lineage.proofs.Alike.{Within, back, map_alike, set_alike, there}

readings_total : IsTotalOrder reading_cmp
readings_total = then_total (on_total (λ (r : Reading). r.relation) names_total) (on_total (λ (r : Reading). r.column) texts_total)

readings_exact : CmpEqualImpliesEq reading_cmp
readings_exact a b h =
    let both = then_equal (name_cmp a.relation b.relation) (text_cmp a.column b.column) h in
    let relations : a.relation ≡ b.relation = names_exact a.relation b.relation both.0 in
    let columns : a.column ≡ b.column = exact_bytes a.column b.column both.1 in
    λ i. record { relation = relations i; column = columns i }

abbrev Up : List Reading → Type 0
Up rs = ascends reading_cmp reading_itself rs ≡ true

abbrev at : Reading → List Reading → Option Reading
at k rs = found reading_cmp reading_itself k rs

in_order_ascends : (rs : List Reading) → Up (in_order rs)
in_order_ascends [] = refl
in_order_ascends (r ∷ rs) = ascends-placed reading_cmp readings_total reading_itself r (in_order rs) (in_order_ascends rs)

found_in_order : (k : Reading) (rs : List Reading) → at k (in_order rs) ≡ at k rs
found_in_order k [] = refl
found_in_order k (x ∷ rs) = found-placed reading_cmp readings_exact reading_itself x k (in_order rs) ∙ ap (cond (is_eq (reading_cmp x k)) (Some x)) (found_in_order k rs)

-- what stands in a list is found by itself, and what is found stands there
found_there : (k : Reading) (rs : List Reading) → Has k rs → at k rs ≡ Some k
found_there k [] h = absurd h
found_there k (x ∷ rs) (inl e) = ap (λ t. cond (is_eq (reading_cmp t k)) (Some t) (at k rs)) e ∙ ap (λ b. cond b (Some k) (at k rs)) (ap is_eq (tied_itself readings_total k))
found_there k (x ∷ rs) (inr h) = go (is_eq (reading_cmp x k)) refl (found_there k rs h)
  where
    go : (b : Bool) → is_eq (reading_cmp x k) ≡ b → at k rs ≡ Some k → cond b (Some x) (at k rs) ≡ Some k
    go true e rest = ap Some (readings_exact x k (equal_is (reading_cmp x k) e))
    go false e rest = rest

there_found : (k y : Reading) (rs : List Reading) → at k rs ≡ Some y → (y ≡ k) × Has y rs
there_found k y [] e = absurd (cc)
there_found k y (x ∷ rs) e = go (is_eq (reading_cmp x k)) refl e (there_found k y rs)
  where
    go : (b : Bool) → is_eq (reading_cmp x k) ≡ b → cond b (Some x) (at k rs) ≡ Some y → (at k rs ≡ Some y → (y ≡ k) × Has y rs) → (y ≡ k) × Has y (x ∷ rs)
    go true t g rest = let same : x ≡ y = cc in (sym same ∙ readings_exact x k (equal_is (reading_cmp x k) t), inl same)
    go false t g rest = let (is, k) = rest g in (is, inr k)

found_in : (k y : Reading) (xs ys : List Reading) → Within xs ys → at k xs ≡ Some y → at k ys ≡ Some y
found_in k y xs ys w e =
    let (is, h) = there_found k y xs e in
    ap (λ t. at t ys) (sym is) ∙ found_there y ys (w y h)

same_found : (k : Reading) (xs ys : List Reading) → Within xs ys → Within ys xs → at k xs ≡ at k ys
same_found k xs ys f g = go (at k xs) (at k ys) refl refl
  where
    go : (o p : Option Reading) → at k xs ≡ o → at k ys ≡ p → at k xs ≡ at k ys
    go (Some x) p e h = e ∙ sym (found_in k x xs ys f e)
    go None (Some y) e h = found_in k y ys xs g h ∙ sym h
    go None None e h = e ∙ sym h

-- two lists that ascend and in which the same is found are one
tail_found : (x : Reading) (xs ys : List Reading) → Up (x ∷ xs) → Up (x ∷ ys) → ((k : Reading) → at k (x ∷ xs) ≡ at k (x ∷ ys)) → (k : Reading) → at k xs ≡ at k ys
tail_found x xs ys up vp same k = go (reading_cmp x k) refl (same k)
  where
    go : (o : Ordering) → reading_cmp x k ≡ o → cond (is_eq o) (Some x) (at k xs) ≡ cond (is_eq o) (Some x) (at k ys) → at k xs ≡ at k ys
    go Less e h = h
    go Equal e h = found-behind reading_cmp readings_total reading_itself x xs k e up ∙ sym (found-behind reading_cmp readings_total reading_itself x ys k e vp)
    go Greater e h = h

itself : (x : Reading) (xs : List Reading) → at x (x ∷ xs) ≡ Some x
itself x xs = found-itself reading_cmp readings_total reading_itself x xs x (tied_itself readings_total x)

one_list : (xs ys : List Reading) → Up xs → Up ys → ((k : Reading) → at k xs ≡ at k ys) → xs ≡ ys
one_list [] [] up vp same = refl
one_list [] (y ∷ ys) up vp same = absurd (let clash : None ≡ Some y = same y ∙ itself y ys in cc)
one_list (x ∷ xs) [] up vp same = absurd (let clash : Some x ≡ None = sym (itself x xs) ∙ same x in cc)
one_list (x ∷ xs) (y ∷ ys) up vp same = go (reading_cmp x y) refl (one_list xs ys (and_right (below_first reading_cmp reading_itself x xs) (ascends reading_cmp reading_itself xs) up) (and_right (below_first reading_cmp reading_itself y ys) (ascends reading_cmp reading_itself ys) vp))
  where
    go : (o : Ordering) → reading_cmp x y ≡ o → (((k : Reading) → at k xs ≡ at k ys) → xs ≡ ys) → x ∷ xs ≡ y ∷ ys
    go Less e more = absurd (let clash : Some x ≡ None = sym (itself x xs) ∙ same x ∙ found-above reading_cmp readings_total reading_itself x (y ∷ ys) (ap is_lt e) vp in cc)
    go Greater e more =
        let less : reading_cmp y x ≡ Less = readings_total.antisymm y x ∙ ap ordering_reverse e in
        absurd (let clash : Some y ≡ None = sym (itself y ys) ∙ sym (same y) ∙ found-above reading_cmp readings_total reading_itself y (x ∷ xs) (ap is_lt less) up in cc)
    go Equal e more =
        let is : x ≡ y = readings_exact x y e in
        let rest : xs ≡ ys = more (tail_found x xs ys up (subst (λ z. Up (z ∷ ys)) (sym is) vp) (subst (λ (z : Reading). (k : Reading) → at k (x ∷ xs) ≡ at k (z ∷ ys)) (sym is) same)) in
        λ i. is i ∷ rest i

pub one_order : (xs ys : List Reading) → IsAlike xs ys → in_order xs ≡ in_order ys
one_order xs ys a =
    one_list (in_order xs) (in_order ys) (in_order_ascends xs) (in_order_ascends ys)
    (λ k. found_in_order k xs ∙ same_found k xs ys (there xs ys a) (back xs ys a) ∙ sym (found_in_order k ys))

-- a list that ascends is in order
in_front : (x : Reading) (xs : List Reading) → below_first reading_cmp reading_itself x xs ≡ true → placed reading_cmp reading_itself x xs ≡ x ∷ xs
in_front x [] h = refl
in_front x (z ∷ zs) h = ap (λ o. put_by o z x zs (placed reading_cmp reading_itself x zs)) (readings_total.antisymm z x ∙ ap ordering_reverse (lt_is _ h))

pub stays : (xs : List Reading) → Up xs → in_order xs ≡ xs
stays [] up = refl
stays (x ∷ xs) up =
    ap (placed reading_cmp reading_itself x) (stays xs (and_right (below_first reading_cmp reading_itself x xs) (ascends reading_cmp reading_itself xs) up))
    ∙ in_front x xs (and_left _ _ up)

-- readings as pairs, which have their order
abbrev pub Pair : Type 0
Pair = Name × List ℕ

abbrev pub pair_cmp : Pair → Pair → Ordering
pair_cmp a b = ordering_then (name_cmp a.0 b.0) (text_cmp a.1 b.1)

pairs_total : IsTotalOrder pair_cmp
pairs_total = then_total (on_total (λ (p : Pair). p.0) names_total) (on_total (λ (p : Pair). p.1) texts_total)

pairs_exact : CmpEqualImpliesEq pair_cmp
pairs_exact = exact_pairs name_cmp text_cmp names_exact exact_bytes

first_below : (x : Pair) (xs : List Pair) → AllByRecursion (λ y. pair_cmp x y ≡ Less) xs → below_first reading_cmp reading_itself (as_reading x) (as_readings xs) ≡ true
first_below x [] h = refl
first_below x (z ∷ zs) h = ap is_lt h.0

pairs_up : (ks : List Pair) → IsStrictlySortedBy pair_cmp ks → Up (as_readings ks)
pairs_up [] s = refl
pairs_up (x ∷ xs) s = and_both _ _ (first_below x xs (sorted_head pair_cmp x xs s)) (pairs_up xs (sorted_tail pair_cmp x xs s))

-- the keys of a set of such pairs
pub set_order : (pairs : List Pair) (set : BTreeSet Pair) (all : List Reading) → IsFromIterResult pair_cmp pairs set → as_readings pairs ≡ all → as_readings set.keys ≡ in_order all
set_order pairs set all made is =
    let keys : List Reading = as_readings set.keys in
    let given : List Reading = as_readings pairs in
    let a : IsAlike keys given = map_alike as_reading set.keys pairs (set_alike pair_cmp pairs_total pairs_exact pairs set made) in
    one_list keys (in_order given) (pairs_up set.keys made.1) (in_order_ascends given)
    (λ k. same_found k keys given (there keys given a) (back keys given a) ∙ sym (found_in_order k given))
    ∙ ap in_order is
