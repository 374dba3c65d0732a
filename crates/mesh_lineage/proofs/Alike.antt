-- Lists that have the same items: put behind one another, and gathered one by one.
use Rattle.std.proofs.Common.{◌≡◌, ℕ, zero, suc, ◌+◌, ◌<◌, ◌≤◌, ◌⊎◌, inl, inr, List, [], ◌∷◌, ◌++◌, length, map, take, refl, sym, ap, ◌∙◌, subst, append-nil, append_assoc, arith}
use Rattle.std.specs.List.{flat_map, slice_index_or}
use Rattle.std.specs.List.Sorted.{IsPermutation}
use Rattle.std.specs.Cmp.{IsTotalOrder}
use Rattle.std.specs.declared.cmp.Ordering.{Ordering}
use Rattle.std.specs.BTreeSet.{BTreeSet, IsFromIterResult}
use Rattle.std.proofs.lemmas.List.{take_all, take_more}
use Rattle.std.proofs.lemmas.Grind.{flat_map-append}
use Rattle.std.proofs.lemmas.List.Sorted.{Contains-permutation, IsPermutation-sym}
use Rattle.std.proofs.lemmas.Map.Lookups.{CmpEqualImpliesEq}
use Rattle.std.proofs.lemmas.Map.Views.{btree_set_contains_from_list, btree_set_contains_iff}
use Rattle.mesh_law_query.proofs.Has.{Has, Has_from, Has_to, Has_left, Has_right, Has_cases, Has_flat, Has_flat_from, Has_map, Has_map_from}
use Rattle.mesh_lineage.specs.Alike.{IsAlike}

-- what stands in one list stands in another
abbrev pub Within : {X : Type 0} → List X → List X → Type 0
Within {X} xs ys = (x : X) → Has x xs → Has x ys

pub there : {X : Type 0} (xs ys : List X) → IsAlike xs ys → Within xs ys
there xs ys a x h = Has_from ys x ((a x).0 (Has_to xs x h))

pub back : {X : Type 0} (xs ys : List X) → IsAlike xs ys → Within ys xs
back xs ys a x h = Has_from xs x ((a x).1 (Has_to ys x h))

alike : {X : Type 0} (xs ys : List X) → Within xs ys → Within ys xs → IsAlike xs ys
alike xs ys f g x = (λ c. Has_to ys x (f x (Has_from xs x c)), λ c. Has_to xs x (g x (Has_from ys x c)))

then_within : {X : Type 0} (a b c d : List X) → Within a b → Within c d → Within (a ++ c) (b ++ d)
then_within a b c d f g x h = go (Has_cases x a c h)
  where
    go : Has x a ⊎ Has x c → Has x (b ++ d)
    go (inl k) = Has_left x b d (f x k)
    go (inr k) = Has_right x b d (g x k)

each_within : {X Y : Type 0} (f : X → List Y) (xs ys : List X) → Within xs ys → Within (flat_map f xs) (flat_map f ys)
each_within f xs ys w y h = let (x, i, k) = Has_flat_from f xs y h in Has_flat f ys x y (w x i) k

pub map_alike : {X Y : Type 0} (f : X → Y) (xs ys : List X) → IsAlike xs ys → IsAlike (map f xs) (map f ys)
map_alike f xs ys a = alike (map f xs) (map f ys) (map_within f xs ys (there xs ys a)) (map_within f ys xs (back xs ys a))
  where
    map_within : {X Y : Type 0} (f : X → Y) (xs ys : List X) → Within xs ys → Within (map f xs) (map f ys)
    map_within f xs ys w y h = let (x, i, e) = Has_map_from f xs y h in Has_map f ys x y (w x i) e

module _ {Y : Type 0} where
  -- more is put behind what was alike
  behind : (next now old more : List Y) → IsAlike next (now ++ more) → IsAlike now old → IsAlike next (old ++ more)
  behind next now old more a b =
      alike next (old ++ more)
      (λ y h. then_within now old more more (there now old b) (λ x k. k) y (there next (now ++ more) a y h))
      (λ y h. back next (now ++ more) a y (then_within old now more more (back now old b) (λ x k. k) y h))

  -- what each of some items gives, where they stand in a list in another order or oftener
  pub given_alike : {X : Type 0} (f : X → List Y) (xs ys whole : List X) (old new : List Y) → IsAlike new (old ++ flat_map f xs) → IsAlike xs ys → ys ≡ whole → IsAlike new (old ++ flat_map f whole)
  given_alike f xs ys whole old new a b all =
      subst (λ l. IsAlike new (old ++ flat_map f l)) all
      (alike new (old ++ flat_map f ys)
      (λ y h. then_within old old (flat_map f xs) (flat_map f ys) (λ x k. k) (each_within f xs ys (there xs ys b)) y (there new (old ++ flat_map f xs) a y h))
      (λ y h. back new (old ++ flat_map f xs) a y (then_within old old (flat_map f ys) (flat_map f xs) (λ x k. k) (each_within f ys xs (back xs ys b)) y h)))

  -- one item more, and all of them
  pub one_more : {X : Type 0} (f : X → List Y) (xs : List X) (i : ℕ) (x : X) (old now next : List Y) → i < length xs → x ≡ slice_index_or xs i x
      → IsAlike now (old ++ flat_map f (take i xs)) → IsAlike next (now ++ f x) → IsAlike next (old ++ flat_map f (take (i + 1) xs))
  one_more f xs i x old now next inside is a b =
      let front : List Y = flat_map f (take i xs) in
      let more : flat_map f (take (i + 1) xs) ≡ front ++ f x =
      ap (flat_map f) (take_more xs i x inside ∙ ap (λ y. take i xs ++ y ∷ []) (sym is))
      ∙ flat_map-append f (take i xs) (x ∷ [])
      ∙ ap (λ l. front ++ l) (append-nil (f x)) in
      subst (IsAlike next) (append_assoc old front (f x) ∙ ap (λ l. old ++ l) (sym more)) (behind next now (old ++ front) (f x) b a)

  -- an item more that gives what one before it gives
  pub once_more : {X : Type 0} (f : X → List Y) (xs : List X) (i : ℕ) (x y : X) (old now : List Y) → i < length xs → x ≡ slice_index_or xs i x
      → Has y (take i xs) → f y ≡ f x → IsAlike now (old ++ flat_map f (take i xs)) → IsAlike now (old ++ flat_map f (take (i + 1) xs))
  once_more {X} f xs i x y old now inside is h same a = one_more f xs i x old now now inside is a (alike now (now ++ f x) (λ z k. Has_left z now (f x) k) (λ z k. go z (Has_cases z now (f x) k)))
    where
      go : (z : Y) → Has z now ⊎ Has z (f x) → Has z now
      go z (inl k) = k
      go z (inr k) = back now (old ++ flat_map f (take i xs)) a z (Has_right z old (flat_map f (take i xs)) (Has_flat f (take i xs) y z h (subst (Has z) (sym same) k)))

  pub all_taken : {X : Type 0} (f : X → List Y) (xs : List X) (i : ℕ) (old now : List Y) → length xs ≤ i → IsAlike now (old ++ flat_map f (take i xs)) → IsAlike now (old ++ flat_map f xs)
  all_taken f xs i old now over a = subst (λ l. IsAlike now (old ++ flat_map f l)) (take_all i xs over) a

  -- two parts, one behind the other
  pub two_parts : (none now next one two : List Y) → none ≡ [] → IsAlike now (none ++ one) → IsAlike next (now ++ two) → IsAlike next (one ++ two)
  two_parts none now next one two is a b = behind next now one two b (subst (λ l. IsAlike now (l ++ one)) is a)

-- a set that was made of a list has what stands in it
pub set_alike : {K : Type 0} (R : K → K → Ordering) → IsTotalOrder R → CmpEqualImpliesEq R → (given : List K) (set : BTreeSet K) → IsFromIterResult R given set → IsAlike set.keys given
set_alike R total exact given set made k =
    let keys = btree_set_contains_iff total exact set k in
    let all = btree_set_contains_from_list total exact given set made k in
    (λ c. all.0 (keys.1 c), λ c. keys.0 (all.1 c))

-- a list in another order has what stands in it
pub permuted_alike : {X : Type 0} (xs ys : List X) → IsPermutation xs ys → IsAlike ys xs
permuted_alike xs ys p x = (Contains-permutation ys xs x (IsPermutation-sym xs ys p), Contains-permutation xs ys x p)

-- an item that stands before another
pub before : {X : Type 0} (xs : List X) (i k : ℕ) (d : X) → k < i → i ≤ length xs → Has (slice_index_or xs k d) (take i xs)
before [] i k d l m = absurd (omega arith)
before (x ∷ xs) zero k d l m = absurd (omega arith)
before (x ∷ xs) (suc i) zero d l m = inl refl
before (x ∷ xs) (suc i) (suc k) d l m = inr (before xs i k d (omega arith) (omega arith))

pub equal_alike : {X : Type 0} (xs ys : List X) → xs ≡ ys → IsAlike xs ys
equal_alike xs ys e = subst (IsAlike xs) e (λ x. (λ h. h, λ h. h))
