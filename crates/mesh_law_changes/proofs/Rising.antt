-- Lists whose items rise by their keys and each keep a rule of their own; and what is found where an item goes.
use Rattle.std.proofs.Common.{◌≡◌, zero, suc, Bool, true, false, cond, ◌&&◌, List, [], ◌∷◌, Some, None, refl, sym, ◌∙◌, ap, arith}
use Rattle.std.specs.declared.option.Option.{Option}
use Rattle.std.specs.declared.cmp.Ordering.{Ordering}
use Rattle.std.specs.Cmp.{Equal-is, IsTotalOrder}
use Rattle.std.proofs.lemmas.Cmp.{tied_itself}
use Rattle.std.proofs.lemmas.Map.Lookups.{CmpEqualImpliesEq}
use Rattle.std.specs.List.{Contains, list_all}
use Rattle.std.specs.Ordering.{is_eq}
use Rattle.std.proofs.lemmas.Bool.{and_from as and_both}
use Rattle.mesh_list.specs.Keyed.{ascends, below_first, found, without}
use Rattle.mesh_list.proofs.Ascends.{and_left, and_right}
use Rattle.mesh_list.proofs.Each.{found-behind}
use Rattle.mesh_house_book.specs.WellFormed.{all_fit, is_above}

module _ {A K : Type 0} (R : K → K → Ordering) (key : A → K) (own : A → Bool) (rule : Option A → A → Bool) (splits : (b : Option A) (x : A) → rule b x ≡ (is_above R key b x && own x)) where
  -- the first key is above that of the item before it
  abbrev goes_on : Option A → List A → Bool
  goes_on None xs = true
  goes_on (Some b) xs = below_first R key (key b) xs

  first_on : (b : Option A) (x : A) (xs : List A) → is_above R key b x ≡ true → goes_on b (x ∷ xs) ≡ true
  first_on None x xs h = refl
  first_on (Some b) x xs h = h

  first_above : (b : Option A) (x : A) (xs : List A) → goes_on b (x ∷ xs) ≡ true → is_above R key b x ≡ true
  first_above None x xs h = refl
  first_above (Some b) x xs h = h

  none_on : (b : Option A) → goes_on b [] ≡ true
  none_on None = refl
  none_on (Some b) = refl

  parts : (b : Option A) (xs : List A) → all_fit rule b xs ≡ true → (goes_on b xs ≡ true) × (ascends R key xs ≡ true) × (list_all own xs ≡ true)
  parts b [] h = (none_on b, refl, refl)
  parts b (x ∷ xs) h =
      let first : (is_above R key b x && own x) ≡ true = sym (splits b x) ∙ and_left (rule b x) (all_fit rule (Some x) xs) h in
      let more = parts (Some x) xs (and_right (rule b x) (all_fit rule (Some x) xs) h) in (
        first_on b x xs (and_left (is_above R key b x) (own x) first),
        and_both _ _ more.0 more.1,
        and_both _ _ (and_right (is_above R key b x) (own x) first) more.2,
      )

  joined : (b : Option A) (xs : List A) → goes_on b xs ≡ true → ascends R key xs ≡ true → list_all own xs ≡ true → all_fit rule b xs ≡ true
  joined b [] on up each = refl
  joined b (x ∷ xs) on up each =
      and_both _ _ (splits b x ∙ and_both _ _ (first_above b x xs on) (and_left (own x) (list_all own xs) each))
      (joined (Some x) xs (and_left (below_first R key (key x) xs) (ascends R key xs) up) (and_right (below_first R key (key x) xs) (ascends R key xs) up) (and_right (own x) (list_all own xs) each))

  pub rises : (xs : List A) → all_fit rule None xs ≡ true → ascends R key xs ≡ true
  rises xs h = (parts None xs h).1

  pub each_keeps : (xs : List A) → all_fit rule None xs ≡ true → list_all own xs ≡ true
  each_keeps xs h = (parts None xs h).2

  pub all_keep : (xs : List A) → ascends R key xs ≡ true → list_all own xs ≡ true → all_fit rule None xs ≡ true
  all_keep xs up each = joined None xs refl up each

-- where two keys differ, it doesn't matter which is asked for first
swap : {A : Type 0} (p q : Bool) (s t e : Option A) → (p ≡ true → q ≡ true → ⊥) → cond p s (cond q t e) ≡ cond q t (cond p s e)
swap true true s t e h = absurd (h refl refl)
swap true false s t e h = refl
swap false q s t e h = refl

module _ {A K : Type 0} (R : K → K → Ordering) (total : IsTotalOrder R) (exact : CmpEqualImpliesEq R) (key : A → K) (k q : K) where
  key_is : (a b : K) → is_eq (R a b) ≡ true → a ≡ b
  key_is a b h = exact a b ((Equal-is (R a b)).0 h)

  is_itself : (a : K) → is_eq (R a a) ≡ true
  is_itself a = (Equal-is (R a a)).1 (tied_itself total a)

  nothing : (b : Bool) → found R key q [] ≡ cond b None (found R key q [])
  nothing true = refl
  nothing false = refl

  -- what is found where the item of a key has gone
  pub found-without : (xs : List A) → ascends R key xs ≡ true → found R key q (without R key k xs) ≡ cond (is_eq (R k q)) None (found R key q xs)
  found-without [] up = nothing (is_eq (R k q))
  found-without (x ∷ xs) up = go (is_eq (R (key x) k)) refl (found-without xs (and_right (below_first R key (key x) xs) (ascends R key xs) up))
    where
      Holds : Type 0
      Holds = found R key q (without R key k xs) ≡ cond (is_eq (R k q)) None (found R key q xs)

      behind : is_eq (R (key x) k) ≡ true → (c : Bool) → is_eq (R k q) ≡ c → found R key q xs ≡ cond c None (cond (is_eq (R (key x) q)) (Some x) (found R key q xs))
      behind e true f =
          let same : key x ≡ q = key_is (key x) k e ∙ key_is k q f in
          found-behind R total key x xs q ((Equal-is (R (key x) q)).0 (ap (λ (a : K). is_eq (R (key x) a)) (sym same) ∙ is_itself (key x))) up
      behind e false f =
          let other : is_eq (R (key x) q) ≡ false = ap (λ (a : K). is_eq (R a q)) (key_is (key x) k e) ∙ f in
          sym (ap (λ (c : Bool). cond c (Some x) (found R key q xs)) other)

      differs : is_eq (R (key x) k) ≡ false → is_eq (R (key x) q) ≡ true → is_eq (R k q) ≡ true → ⊥
      differs e f g =
          let same : key x ≡ k = key_is (key x) q f ∙ sym (key_is k q g) in
          let t : true ≡ false = sym (ap (λ (a : K). is_eq (R (key x) a)) (sym same) ∙ is_itself (key x)) ∙ e in cc

      go : (b : Bool) → is_eq (R (key x) k) ≡ b → Holds → found R key q (cond b xs (x ∷ without R key k xs)) ≡ cond (is_eq (R k q)) None (cond (is_eq (R (key x) q)) (Some x) (found R key q xs))
      go true e more = behind e (is_eq (R k q)) refl
      go false e more = ap (cond (is_eq (R (key x) q)) (Some x)) more ∙ swap (is_eq (R (key x) q)) (is_eq (R k q)) (Some x) None (found R key q xs) (differs e)

-- what is found passes where all do
pub found_passes : {A K : Type 0} (R : K → K → Ordering) (key : A → K) (p : A → Bool) (k : K) (x : A) (xs : List A) → list_all p xs ≡ true → found R key k xs ≡ Some x → p x ≡ true
found_passes R key p k x [] h e = absurd (let f : None ≡ Some x = e in cc)
found_passes R key p k x (y ∷ ys) h e = go (is_eq (R (key y) k)) (found_passes R key p k x ys (and_right (p y) (list_all p ys) h)) e
  where
    go : (b : Bool) → (found R key k ys ≡ Some x → p x ≡ true) → cond b (Some y) (found R key k ys) ≡ Some x → p x ≡ true
    go true more f = ap p (let same : x ≡ y = cc in same) ∙ and_left (p y) (list_all p ys) h
    go false more f = more f

-- so does each item
pub item_passes : {A : Type 0} (p : A → Bool) (xs : List A) (x : A) → list_all p xs ≡ true → Contains xs x → p x ≡ true
item_passes p [] x h (k, l, e) = absurd (omega (arith, l))
item_passes p (y ∷ ys) x h (zero, l, e) = ap p (sym e) ∙ and_left (p y) (list_all p ys) h
item_passes p (y ∷ ys) x h (suc k, l, e) = item_passes p ys x (and_right (p y) (list_all p ys) h) (k, omega (arith, l), e)

pub all_pass : {A : Type 0} (p : A → Bool) (xs : List A) → ((x : A) → Contains xs x → p x ≡ true) → list_all p xs ≡ true
all_pass p [] h = refl
all_pass p (x ∷ xs) h = and_both _ _ (h x (0, omega arith, refl)) (all_pass p xs (λ y k. h y (suc k.0, omega (arith, k.1), k.2)))
