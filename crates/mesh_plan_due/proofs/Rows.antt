-- The rows of models, one model more.
use Rattle.std.proofs.Common.{◌≡◌, ℕ, zero, suc, ◌+◌, ◌<◌, Bool, true, false, not, ◌||◌, ◌&&◌, nat_eq, List, [], ◌∷◌, ◌++◌, map, length, take, get_or, refl, sym, ap, ◌∙◌, subst, arith}
use Rattle.std.specs.List.{AllZip, slice_get}
use Rattle.std.specs.Ordering.{is_eq, ordering_reverse}
use Rattle.std.specs.Cmp.{Equal-is}
use Rattle.std.specs.declared.cmp.Ordering.{Ordering}
use Rattle.std.specs.declared.cmp.Ordering.TheVariants.{Less, Equal, Greater}
use Rattle.std.specs.declared.option.Option.TheVariants.{Some}
use Rattle.std.proofs.lemmas.Bool.{and_parts}
use Rattle.std.proofs.lemmas.Bool.Decides.{nat_tests}
use Rattle.std.proofs.lemmas.Cmp.{tied_itself}
use Rattle.mesh_base_values.specs.Names.{name_cmp}
use Rattle.mesh_base_values.specs.NameOrder.{names_exact, names_total}
use Rattle.mesh_base_values.specs.declared.values.Name.{Name}
use Rattle.mesh_base.specs.declared.snapshots.Node.{Node}
use Rattle.mesh_base.specs.rules.Proper.{are_fit, has_node, have_distinct_names, is_proper, node_cmp, node_itself}
use Rattle.mesh_list.specs.Keyed.{ascends}
use Rattle.mesh_spec_model.specs.Closures.{Closure, closures, own_of}
use Rattle.mesh_spec_changes.specs.due.Dues.{descends}
use Rattle.mesh_spec_changes.specs.due.Parts.{same_name}
use Rattle.mesh_plan_due.specs.Lineages.{HaveLineages, IsLineage, any_row, bit_in, has_bit}
use Rattle.mesh_plan_due.specs.Stands.{any_at, flag_of}
use Rattle.mesh_plan_due.proofs.Flags.{parents_any}
use Rattle.mesh_plan_due.proofs.Nodes.{closure_of, closures_more, node_there}

pub distinct : (nodes : List Node) → is_proper nodes ≡ true → have_distinct_names nodes ≡ true
distinct nodes h =
    let a = and_parts _ (ascends node_cmp node_itself nodes && (have_distinct_names nodes && are_fit nodes nodes)) h in
    let b = and_parts (ascends node_cmp node_itself nodes) _ a.1 in
    (and_parts (have_distinct_names nodes) (are_fit nodes nodes) b.1).0

pub itself : (x : Name) → same_name x x ≡ true
itself x = ap is_eq (tied_itself names_total x)

pub turned : (a b : Name) → same_name a b ≡ same_name b a
turned a b = ap is_eq (names_total.antisymm a b) ∙ go (name_cmp b a)
  where
    go : (o : Ordering) → is_eq (ordering_reverse o) ≡ is_eq o
    go Less = refl
    go Equal = refl
    go Greater = refl

pub same_names : (a b : Name) → same_name a b ≡ true → a ≡ b
same_names a b e = names_exact a b ((Equal-is (name_cmp a b)).0 e)

pub other_name : (ns : List Node) (k : ℕ) (n : Node) (name : Name) → slice_get ns k ≡ Some n → has_node ns name ≡ false → same_name n.own.name name ≡ false
other_name [] k n name e h = absurd (cc)
other_name (m ∷ ns) k n name e h = go k (is_eq (name_cmp m.own.name name)) refl h e (λ j f g. other_name ns j n name f g)
  where
    go : (k : ℕ) (b : Bool) → is_eq (name_cmp m.own.name name) ≡ b → (b || has_node ns name) ≡ false → slice_get (m ∷ ns) k ≡ Some n
        → ((j : ℕ) → slice_get ns j ≡ Some n → has_node ns name ≡ false → same_name n.own.name name ≡ false) → same_name n.own.name name ≡ false
    go k true f g e more = absurd (cc)
    go zero false f g e more = let same : m ≡ n = cc in ap (λ (x : Node). same_name x.own.name name) (sym same) ∙ f
    go (suc k) false f g e more = more k e g

first_and_later : (q : ℕ) → nat_eq 0 (suc q) ≡ false
first_and_later q = grind (arith, nat_tests)

later_and_first : (q : ℕ) → nat_eq (suc q) 0 ≡ false
later_and_first q = grind (arith, nat_tests)

both_later : (p q : ℕ) → nat_eq p q ≡ nat_eq (suc p) (suc q)
both_later p q = grind (arith, nat_tests)

-- of models of distinct names two have one name only where they are one
pub one_place : (ns : List Node) → have_distinct_names ns ≡ true → (p q : ℕ) (m n : Node) → slice_get ns p ≡ Some m → slice_get ns q ≡ Some n → same_name n.own.name m.own.name ≡ nat_eq p q
one_place [] h p q m n e f = absurd (cc)
one_place (x ∷ ns) h zero zero m n e f = let a : n ≡ m = cc in ap (λ (y : Node). same_name y.own.name m.own.name) a ∙ itself m.own.name
one_place (x ∷ ns) h zero (suc q) m n e f =
    let a : x ≡ m = cc in
    let none : has_node ns x.own.name ≡ false = negated (has_node ns x.own.name) (and_parts (not (has_node ns x.own.name)) (have_distinct_names ns) h).0 in
    ap (λ (y : Node). same_name n.own.name y.own.name) (sym a) ∙ other_name ns q n x.own.name f none ∙ sym (first_and_later q)
  where
    negated : (b : Bool) → not b ≡ true → b ≡ false
    negated true e = absurd (cc)
    negated false e = refl
one_place (x ∷ ns) h (suc p) zero m n e f =
    let a : x ≡ n = cc in
    let none : has_node ns x.own.name ≡ false = negated (has_node ns x.own.name) (and_parts (not (has_node ns x.own.name)) (have_distinct_names ns) h).0 in
    ap (λ (y : Node). same_name y.own.name m.own.name) (sym a) ∙ turned x.own.name m.own.name ∙ other_name ns p m x.own.name e none ∙ sym (later_and_first p)
  where
    negated : (b : Bool) → not b ≡ true → b ≡ false
    negated true e = absurd (cc)
    negated false e = refl
one_place (x ∷ ns) h (suc p) (suc q) m n e f = one_place ns (and_parts (not (has_node ns x.own.name)) (have_distinct_names ns) h).1 p q m n e f ∙ both_later p q

-- what the rows at some places say of a model
module _ (nodes : List Node) (p : ℕ) (m : Node) (at : slice_get nodes p ≡ Some m) where
  one_row : (done : List Closure) (rows : List (List ℕ)) → HaveLineages nodes done rows → (i : ℕ) → bit_in (slice_get rows i) p ≡ flag_of (slice_get (map (descends m.own.name) done) i)
  one_row [] [] h i = refl
  one_row [] (r ∷ rows) h i = absurd h
  one_row (c ∷ done) [] h i = absurd h
  one_row (c ∷ done) (r ∷ rows) h zero = h.0 p m at
  one_row (c ∷ done) (r ∷ rows) h (suc i) = one_row done rows h.1 i

  rows_say : (done : List Closure) (rows : List (List ℕ)) → HaveLineages nodes done rows → (places : List ℕ) → any_row rows p places ≡ any_at (map (descends m.own.name) done) places
  rows_say done rows h [] = refl
  rows_say done rows h (i ∷ is) = λ j. one_row done rows h i j || rows_say done rows h is j

zip_push : {A B : Type 0} (R : A → B → Type 0) (xs : List A) (ys : List B) (x : A) (y : B) → AllZip R xs ys → R x y → AllZip R (xs ++ x ∷ []) (ys ++ y ∷ [])
zip_push R [] [] x y h r = (r, tt)
zip_push R [] (z ∷ ys) x y h r = absurd h
zip_push R (z ∷ xs) [] x y h r = absurd h
zip_push R (w ∷ xs) (z ∷ ys) x y h r = (h.0, zip_push R xs ys x y h.1 r)

-- one model more
module _ (nodes : List Node) (proper : is_proper nodes ≡ true) (i : ℕ) (n : Node) (inside : i < length nodes) (here : n ≡ get_or nodes i n) (rows : List (List ℕ)) (known : HaveLineages nodes (closures (take i nodes)) rows)
    (row : List ℕ) (bits : (p : ℕ) → has_bit row p ≡ (nat_eq p i || any_row rows p n.parents)) where
  its_row : IsLineage nodes (closure_of (closures (take i nodes)) n) row
  its_row p m at =
      bits p
      ∙ (λ j. sym (one_place nodes (distinct nodes proper) p i m n at (node_there nodes i n inside here)) j || rows_say nodes p m at (closures (take i nodes)) rows known n.parents j)
      ∙ ap (λ b. same_name n.own.name m.own.name || b) (sym (parents_any (λ s. same_name (own_of s).name m.own.name) (closures (take i nodes)) n.parents))

  pub lineages_more : HaveLineages nodes (closures (take (i + 1) nodes)) (rows ++ row ∷ [])
  lineages_more =
      subst (λ (cs : List Closure). HaveLineages nodes cs (rows ++ row ∷ []))
      (ap (λ x. closures (take i nodes) ++ closure_of (closures (take i nodes)) x ∷ []) here ∙ sym (closures_more nodes i n inside))
      (zip_push (IsLineage nodes) (closures (take i nodes)) rows (closure_of (closures (take i nodes)) n) row known its_row)
