-- Fingerprints that stand in a list once, or more often.
use Rattle.std.proofs.Common.{◌≡◌, ℕ, Bool, true, false, cond, inl, inr, List, [], ◌∷◌, map, Some, None, refl, sym, ◌∙◌, ap}
use Rattle.std.specs.Cmp.{Equal-is}
use Rattle.std.specs.Option.{is_some}
use Rattle.std.specs.Ordering.{is_eq}
use Rattle.std.specs.declared.option.Option.{Option}
use Rattle.std.proofs.lemmas.Cmp.{tied_itself}
use Rattle.std.proofs.lemmas.Map.Lookups.{exact_bytes}
use Rattle.mesh_base_values.specs.Names.{text_cmp}
use Rattle.mesh_base_values.specs.NameOrder.{texts_total}
use Rattle.mesh_law_query.proofs.Has.{Has}
use Rattle.mesh_category.specs.versions.Index.{again}

pub same_print : (f g : List ℕ) → is_eq (text_cmp f g) ≡ true → f ≡ g
same_print f g e = exact_bytes f g ((Equal-is (text_cmp f g)).0 e)

pub its_print : (f g : List ℕ) → f ≡ g → is_eq (text_cmp f g) ≡ true
its_print f g e = ap (λ (h : List ℕ). is_eq (text_cmp h g)) e ∙ ap is_eq (tied_itself texts_total g)

module _ {A : Type 0} (print : A → List ℕ) (f : List ℕ) where
  -- a fingerprint that isn't there is that of no item
  pub none_has_it : (xs : List A) → again (map print xs) f ≡ None → (x : A) → Has x xs → print x ≡ f → ⊥
  none_has_it [] e x h is = h
  none_has_it (y ∷ ys) e x h is = go (is_eq (text_cmp (print y) f)) refl e h (none_has_it ys)
    where
      go : (b : Bool) → is_eq (text_cmp (print y) f) ≡ b → cond b (Some (is_some (again (map print ys) (print y)))) (again (map print ys) f) ≡ None → Has x (y ∷ ys)
          → (again (map print ys) f ≡ None → (x : A) → Has x ys → print x ≡ f → ⊥) → ⊥
      go true t e h more = let clash : Some (is_some (again (map print ys) (print y))) ≡ None = e in absurd (cc)
      go false t e (inl same) more = let clash : true ≡ false = sym (its_print (print y) f (ap print same ∙ is)) ∙ t in absurd (cc)
      go false t e (inr k) more = more e x k is

  -- one that is there is that of an item
  pub one_has_it : (xs : List A) (b : Bool) → again (map print xs) f ≡ Some b → (x : A) × Has x xs × (print x ≡ f)
  one_has_it [] b e = let clash : None ≡ Some b = e in absurd (cc)
  one_has_it (y ∷ ys) b e = go (is_eq (text_cmp (print y) f)) refl e (one_has_it ys b)
    where
      go : (c : Bool) → is_eq (text_cmp (print y) f) ≡ c → cond c (Some (is_some (again (map print ys) (print y)))) (again (map print ys) f) ≡ Some b
          → (again (map print ys) f ≡ Some b → (x : A) × Has x ys × (print x ≡ f)) → (x : A) × Has x (y ∷ ys) × (print x ≡ f)
      go true t e more = (y, inl refl, same_print (print y) f t)
      go false t e more = let (x, h, is) = more e in (x, inr h, is)

is_there : {A : Type 0} (print : A → List ℕ) (f : List ℕ) (xs : List A) → is_some (again (map print xs) f) ≡ true → (x : A) × Has x xs × (print x ≡ f)
is_there {A} print f xs e = go (again (map print xs) f) refl e
  where
    go : (o : Option Bool) → again (map print xs) f ≡ o → is_some o ≡ true → (x : A) × Has x xs × (print x ≡ f)
    go None is e = absurd (cc)
    go (Some b) is e = one_has_it print f xs b is

is_away : {A : Type 0} (print : A → List ℕ) (f : List ℕ) (xs : List A) → is_some (again (map print xs) f) ≡ false → (x : A) → Has x xs → print x ≡ f → ⊥
is_away print f xs e = go (again (map print xs) f) refl e
  where
    go : (o : Option Bool) → again (map print xs) f ≡ o → is_some o ≡ false → (x : _) → Has x xs → print x ≡ f → ⊥
    go None is e = none_has_it print f xs is
    go (Some b) is e = absurd (cc)

module _ {A : Type 0} (print : A → List ℕ) (f : List ℕ) where
  -- one that stands there once is that of one item alone
  pub one_alone : (xs : List A) → again (map print xs) f ≡ Some false → (x y : A) → Has x xs → Has y xs → print x ≡ f → print y ≡ f → x ≡ y
  one_alone [] e x y h k is its = absurd h
  one_alone (z ∷ zs) e x y h k is its = go (is_eq (text_cmp (print z) f)) refl e h k (one_alone zs)
    where
      never : is_eq (text_cmp (print z) f) ≡ false → (w : A) → z ≡ w → print w ≡ f → ⊥
      never t w same e = let clash : true ≡ false = sym (its_print (print z) f (ap print same ∙ e)) ∙ t in absurd (cc)

      alone : is_eq (text_cmp (print z) f) ≡ true → Some (is_some (again (map print zs) (print z))) ≡ Some false → (w : A) → Has w zs → print w ≡ f → ⊥
      alone t e w i its =
          let away : is_some (again (map print zs) (print z)) ≡ false = cc in
          is_away print (print z) zs away w i (its ∙ sym (same_print (print z) f t))

      go : (b : Bool) → is_eq (text_cmp (print z) f) ≡ b → cond b (Some (is_some (again (map print zs) (print z)))) (again (map print zs) f) ≡ Some false → Has x (z ∷ zs) → Has y (z ∷ zs)
          → (again (map print zs) f ≡ Some false → (x y : A) → Has x zs → Has y zs → print x ≡ f → print y ≡ f → x ≡ y) → x ≡ y
      go true t e (inl p) (inl q) more = sym p ∙ q
      go true t e (inl p) (inr q) more = absurd (alone t e y q its)
      go true t e (inr p) q more = absurd (alone t e x p is)
      go false t e (inl p) q more = absurd (never t x p is)
      go false t e (inr p) (inl q) more = absurd (never t y q its)
      go false t e (inr p) (inr q) more = more e x y p q is its

-- one that stands there more often is that of two items, which differ where the list's items do
pub record Two {A : Type 0} (print : A → List ℕ) (f : List ℕ) (D : A → A → Type 0) (xs : List A) : Type 0 where
  pub one : A
  pub other : A
  pub has_one : Has one xs
  pub has_other : Has other xs
  pub its : print one ≡ f
  pub same : print other ≡ f
  pub differ : D one other

module _ {A : Type 0} (print : A → List ℕ) (f : List ℕ) (D : A → A → Type 0) (P : List A → Type 0) (tail : (x : A) (xs : List A) → P (x ∷ xs) → P xs) (apart : (x : A) (xs : List A) → P (x ∷ xs) → (y : A) → Has y xs → D x y) where
  pub two_have_it : (xs : List A) → P xs → again (map print xs) f ≡ Some true → Two print f D xs
  two_have_it [] p e = let clash : None ≡ Some true = e in absurd (cc)
  two_have_it (z ∷ zs) p e = go (is_eq (text_cmp (print z) f)) refl e (two_have_it zs (tail z zs p))
    where
      go : (b : Bool) → is_eq (text_cmp (print z) f) ≡ b → cond b (Some (is_some (again (map print zs) (print z)))) (again (map print zs) f) ≡ Some true
          → (again (map print zs) f ≡ Some true → Two print f D zs) → Two print f D (z ∷ zs)
      go true t e more =
          let there : is_some (again (map print zs) (print z)) ≡ true = cc in
          let (y, h, is) = is_there print (print z) zs there in
          let its = same_print (print z) f t in
          record { one = z; other = y; has_one = inl refl; has_other = inr h; its = its; same = is ∙ its; differ = apart z zs p y h }
      go false t e more =
          let two = more e in
          record { one = two.one; other = two.other; has_one = inr two.has_one; has_other = inr two.has_other; its = two.its; same = two.same; differ = two.differ }
