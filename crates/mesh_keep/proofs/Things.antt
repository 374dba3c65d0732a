-- What the records of one kind say: each of them a thing, and all of them the one list in order that they keep.
use Rattle.std.proofs.Common.{◌≡◌, ℕ, Bool, true, false, cond, ◌&&◌, if◌then◌else◌, List, [], ◌∷◌, Some, None, refl, sym, ap, subst, ◌∙◌}
use Rattle.std.specs.Prelude.{◌↔◌}
use Rattle.std.specs.List.{AllByRecursion, list_all}
use Rattle.std.specs.declared.option.Option.{Option}
use Rattle.std.specs.declared.cmp.Ordering.{Ordering}
use Rattle.std.specs.Ordering.{is_eq}
use Rattle.std.specs.Cmp.{Equal-is, IsTotalOrder}
use Rattle.std.proofs.lemmas.Cmp.{tied_itself}
use Rattle.std.proofs.lemmas.Map.Lookups.{CmpEqualImpliesEq}
use Rattle.std.proofs.lemmas.Bool.{and_from as and_both}
use Rattle.mesh_list.specs.Keyed.{ascends, below_first, found, placed}
use Rattle.mesh_list.proofs.Ascends.{and_left, and_right, ascends-placed}
use Rattle.mesh_list.proofs.Each.{each_found, found-behind}
use Rattle.mesh_list.proofs.Found.{found-placed}
use Rattle.mesh_base_values.specs.Names.{text_cmp}
use Rattle.mesh_base_values.specs.NameOrder.{texts_total}
use Rattle.mesh_base_values.specs.Picked.{same_text}
use Rattle.mesh_base_values.proofs.Equals.{text_itself as same_itself, text_is as same_is}
use Rattle.mesh_house_book.proofs.moves.Sorting.{one_list}
use Rattle.mesh_house.proofs.Tested.{all-placed}
use Rattle.mesh_canon_reading.specs.Fits.{text_fits}
use Rattle.mesh_canon_reading.proofs.Exact.{some_is}
use Rattle.mesh_canon_reading.proofs.Steps.{bound}
use Rattle.mesh_keep.specs.declared.kept.Kept.{Kept}
use Rattle.mesh_keep.specs.declared.kept.Record.{Record}
use Rattle.mesh_keep.specs.Holds.{Keeps}
use Rattle.mesh_keep.specs.Places.{body_at, kept_place, place_cmp, records_of}
use Rattle.mesh_keep.specs.Said.{thing_in, things_in}
use Rattle.mesh_keep.proofs.OfKind.{body_is, names_ascend, record_at, record_body, record_name}

-- the records of a kind are those of the things of a list in order, each of which may be there
pub record HoldsKind {A K : Type 0} (R : K → K → Ordering) (key : A → K) (text : K → List ℕ) (may : A → Bool) (Is : List ℕ → A → Type 0) (kind : ℕ) (kept : List Kept) (xs : List A) : Type 0 where
  pub up : ascends R key xs ≡ true
  pub all : list_all may xs ≡ true
  pub keeps : (k : K) → Keeps Is (body_at kept kind (text k)) (found R key k xs)
  pub named : (n b : List ℕ) → body_at kept kind n ≡ Some b → (k : K) × (n ≡ text k)

-- a text is that text, and no other

tested : {A : Type 0} (b : Bool) (y x : A) → (if b then Some y else None) ≡ Some x → (b ≡ true) × (y ≡ x)
tested true y x e = (refl, some_is y x e)
tested false y x e = absurd cc

each_map : {A : Type 0} (P Q : A → Type 0) → ((x : A) → P x → Q x) → (xs : List A) → AllByRecursion P xs → AllByRecursion Q xs
each_map P Q f [] all = tt
each_map P Q f (x ∷ xs) all = (f x all.0, each_map P Q f xs all.1)

-- what is found has its key, and passes what all pass
pub found_has : {A K : Type 0} (R : K → K → Ordering) → CmpEqualImpliesEq R → (key : A → K) (p : A → Bool) (k : K) (xs : List A) (x : A) → list_all p xs ≡ true → found R key k xs ≡ Some x → (key x ≡ k) × (p x ≡ true)
found_has R exact key p k [] x all e = absurd cc
found_has {A = A} R exact key p k (y ∷ ys) x all e = at (is_eq (R (key y) k)) refl (found_has R exact key p k ys x (and_right (p y) (list_all p ys) all)) e
  where
    at : (b : Bool) → is_eq (R (key y) k) ≡ b → (found R key k ys ≡ Some x → (key x ≡ k) × (p x ≡ true)) → cond b (Some y) (found R key k ys) ≡ Some x → (key x ≡ k) × (p x ≡ true)
    at true is more h =
        let same : y ≡ x = some_is y x h in
        subst (λ (z : A). (key z ≡ k) × (p z ≡ true)) same (exact (key y) k ((Equal-is (R (key y) k)).0 is), and_left (p y) (list_all p ys) all)
    at false is more h = more h

module _ {A K : Type 0} (R : K → K → Ordering) (total : IsTotalOrder R) (exact : CmpEqualImpliesEq R) (key : A → K) (text : K → List ℕ)
    (read : List ℕ → Option A) (may : A → Bool) (Is : List ℕ → A → Type 0)
    (reads : (t : List ℕ) (x : A) → (read t ≡ Some x) ↔ ((text_fits t ≡ true) × Is t x))
    (one : (t : List ℕ) (x : A) (k : K) → text_fits t ≡ true → Is t x → text k ≡ text (key x) → k ≡ key x) where
  abbrev pub thing : Record → Option A
  thing r = thing_in read (λ (x : A). text (key x)) may r

  abbrev pub all_said : List A → List Record → Option (List A)
  all_said xs rs = things_in R key thing xs rs

  thing_is : (r : Record) (x : A) → thing r ≡ Some x → (read r.body ≡ Some x) × (r.name ≡ text (key x)) × (may x ≡ true)
  thing_is r x e =
      let b = bound (read r.body) (λ (y : A). if same_text r.name (text (key y)) && may y then Some y else None) x e in
      let t = tested (same_text r.name (text (key b.0)) && may b.0) b.0 x b.2 in
      subst (λ (y : A). (read r.body ≡ Some y) × (r.name ≡ text (key y)) × (may y ≡ true)) t.1
      (b.1, same_is r.name (text (key b.0)) (and_left _ (may b.0) t.0), and_right (same_text r.name (text (key b.0))) _ t.0)

  is_thing : (r : Record) (x : A) → read r.body ≡ Some x → r.name ≡ text (key x) → may x ≡ true → thing r ≡ Some x
  is_thing r x e n m =
      let same : same_text r.name (text (key x)) ≡ true = subst (λ (t : List ℕ). same_text r.name t ≡ true) n (same_itself r.name) in
      let test : (same_text r.name (text (key x)) && may x) ≡ true = and_both _ _ same m in
      rw e (ap (λ (b : Bool). if b then Some x else None) test)

  -- what is found of what was said: what the record of that name says, and else what was there
  abbrev by : Option Record → Option A → Option A
  by None o = o
  by (Some r) o = thing r

  tells : (r : Record) (rs : List Record) (x : A) (k : K) (o : Option A) → ascends text_cmp record_name (r ∷ rs) ≡ true → thing r ≡ Some x
      → (p q : Bool) → is_eq (text_cmp r.name (text k)) ≡ p → is_eq (R (key x) k) ≡ q
      → by (record_at (text k) rs) (cond q (Some x) o) ≡ by (cond p (Some r) (record_at (text k) rs)) o
  tells r rs x k o up e true true ep eq =
      let none : record_at (text k) rs ≡ None = found-behind text_cmp texts_total record_name r rs (text k) ((Equal-is (text_cmp r.name (text k))).0 ep) up in
      ap (λ (s : Option Record). by s (Some x)) none ∙ sym e
  tells r rs x k o up e true false ep eq =
      let t = thing_is r x e in
      let m = (reads r.body x).0 t.0 in
      let same : k ≡ key x = one r.body x k m.0 m.1 (sym (same_is r.name (text k) ep) ∙ t.1) in
      let tied : is_eq (R (key x) k) ≡ true = subst (λ (n : K). is_eq (R (key x) n) ≡ true) (sym same) (ap is_eq (tied_itself total (key x))) in
      absurd (let clash : true ≡ false = sym tied ∙ eq in cc)
  tells r rs x k o up e false true ep eq =
      let t = thing_is r x e in
      let same : key x ≡ k = exact (key x) k ((Equal-is (R (key x) k)).0 eq) in
      let tied : same_text r.name (text k) ≡ true = subst (λ (n : List ℕ). same_text r.name n ≡ true) (t.1 ∙ ap text same) (same_itself r.name) in
      absurd (let clash : true ≡ false = sym tied ∙ ep in cc)
  tells r rs x k o up e false false ep eq = refl

  found_said : (acc : List A) (rs : List Record) (xs : List A) → ascends text_cmp record_name rs ≡ true → all_said acc rs ≡ Some xs → (k : K) → found R key k xs ≡ by (record_at (text k) rs) (found R key k acc)
  found_said acc [] xs up e k = ap (found R key k) (sym (some_is acc xs e))
  found_said acc (r ∷ rs) xs up e k =
      let b = bound (thing r) (λ (y : A). all_said (placed R key y acc) rs) xs e in
      found_said (placed R key b.0 acc) rs xs (and_right (below_first text_cmp record_name r.name rs) _ up) b.2 k
      ∙ ap (by (record_at (text k) rs)) (found-placed R exact key b.0 k acc)
      ∙ tells r rs b.0 k (found R key k acc) up b.1 (is_eq (text_cmp r.name (text k))) (is_eq (R (key b.0) k)) refl refl

  -- each record that is found says a thing
  each_says : (n : List ℕ) (acc : List A) (rs : List Record) (xs : List A) (r : Record) → all_said acc rs ≡ Some xs → record_at n rs ≡ Some r → (x : A) × (thing r ≡ Some x) × (r.name ≡ n)
  each_says n acc [] xs r e is = absurd cc
  each_says n acc (q ∷ rs) xs r e is =
      let b = bound (thing q) (λ (y : A). all_said (placed R key y acc) rs) xs e in
      at b.0 b.1 (each_says n (placed R key b.0 acc) rs xs r b.2) (is_eq (text_cmp q.name n)) refl is
    where
      at : (y : A) → thing q ≡ Some y → (record_at n rs ≡ Some r → (x : A) × (thing r ≡ Some x) × (r.name ≡ n)) → (b : Bool) → is_eq (text_cmp q.name n) ≡ b → cond b (Some q) (record_at n rs) ≡ Some r → (x : A) × (thing r ≡ Some x) × (r.name ≡ n)
      at y said more true t h = subst (λ (s : Record). (x : A) × (thing s ≡ Some x) × (s.name ≡ n)) (some_is q r h) (y, said, same_is q.name n t)
      at y said more false t h = more h

  -- records that say a list in order keep it
  pub said_ascends : (acc : List A) (rs : List Record) (xs : List A) → ascends R key acc ≡ true → all_said acc rs ≡ Some xs → ascends R key xs ≡ true
  said_ascends acc [] xs up e = subst (λ (ys : List A). ascends R key ys ≡ true) (some_is acc xs e) up
  said_ascends acc (r ∷ rs) xs up e =
      let b = bound (thing r) (λ (y : A). all_said (placed R key y acc) rs) xs e in
      said_ascends (placed R key b.0 acc) rs xs (ascends-placed R total key b.0 acc up) b.2

  pub said_may : (acc : List A) (rs : List Record) (xs : List A) → list_all may acc ≡ true → all_said acc rs ≡ Some xs → list_all may xs ≡ true
  said_may acc [] xs all e = subst (λ (ys : List A). list_all may ys ≡ true) (some_is acc xs e) all
  said_may acc (r ∷ rs) xs all e =
      let b = bound (thing r) (λ (y : A). all_said (placed R key y acc) rs) xs e in
      said_may (placed R key b.0 acc) rs xs (all-placed R key may b.0 (thing_is r b.0 b.1).2 acc all) b.2

  kept_by : (k : K) (o : Option Record) → ((r : Record) → o ≡ Some r → (x : A) × (thing r ≡ Some x) × (r.name ≡ text k)) → Keeps Is (record_body o) (by o None)
  kept_by k None says = tt
  kept_by k (Some r) says =
      let s = says r refl in
      subst (Keeps Is (Some r.body)) (sym s.1) ((reads r.body s.0).0 (thing_is r s.0 s.1).0)

  pub said_keeps : (rs : List Record) (xs : List A) → ascends text_cmp record_name rs ≡ true → all_said [] rs ≡ Some xs → (k : K) → Keeps Is (record_body (record_at (text k) rs)) (found R key k xs)
  said_keeps rs xs up e k =
      subst (Keeps Is (record_body (record_at (text k) rs))) (sym (found_said [] rs xs up e k))
      (kept_by k (record_at (text k) rs) (λ r is. each_says (text k) [] rs xs r e is))

  named_by : (n : List ℕ) (o : Option Record) (b : List ℕ) → record_body o ≡ Some b → ((r : Record) → o ≡ Some r → (x : A) × (thing r ≡ Some x) × (r.name ≡ n)) → (k : K) × (n ≡ text k)
  named_by n None b e says = absurd cc
  named_by n (Some r) b e says =
      let s = says r refl in
      (key s.0, sym s.2 ∙ (thing_is r s.0 s.1).1)

  pub said_named : (rs : List Record) (xs : List A) → all_said [] rs ≡ Some xs → (n b : List ℕ) → record_body (record_at n rs) ≡ Some b → (k : K) × (n ≡ text k)
  said_named rs xs e n b is = named_by n (record_at n rs) b is (λ r at. each_says n [] rs xs r e at)

  -- records that keep a list in order say it
  all_say : (acc : List A) (rs : List Record) → AllByRecursion (λ (r : Record). (x : A) × (thing r ≡ Some x)) rs → (ys : List A) × (all_said acc rs ≡ Some ys)
  all_say acc [] all = (acc, refl)
  all_say acc (r ∷ rs) all =
      let more = all_say (placed R key all.0.0 acc) rs all.1 in
      (more.0, rw all.0.1 more.1)

  same_kept : (b : Option (List ℕ)) (o p : Option A) → Keeps Is b o → Keeps Is b p → o ≡ p
  same_kept None None None x y = refl
  same_kept None None (Some q) x y = absurd y
  same_kept None (Some o) p x y = absurd x
  same_kept (Some t) None p x y = absurd x
  same_kept (Some t) (Some o) None x y = absurd y
  same_kept (Some t) (Some o) (Some q) x y = sym ((reads t o).1 x) ∙ (reads t q).1 y

  module _ (rs : List Record) (xs : List A) (names : ascends text_cmp record_name rs ≡ true) (up : ascends R key xs ≡ true) (all : list_all may xs ≡ true)
      (keeps : (k : K) → Keeps Is (record_body (record_at (text k) rs)) (found R key k xs))
      (named : (n b : List ℕ) → record_body (record_at n rs) ≡ Some b → (k : K) × (n ≡ text k)) where
    says_by : (r : Record) (k : K) (o : Option A) → r.name ≡ text k → found R key k xs ≡ o → Keeps Is (Some r.body) o → (x : A) × (thing r ≡ Some x)
    says_by r k None n e h = absurd h
    says_by r k (Some x) n e h =
        let has = found_has R exact key may k xs x all e in
        (x, is_thing r x ((reads r.body x).1 h) (n ∙ ap text (sym has.0)) has.1)

    says : (r : Record) → record_at r.name rs ≡ Some r → (x : A) × (thing r ≡ Some x)
    says r is =
        let m = named r.name r.body (ap record_body is) in
        let there : record_at (text m.0) rs ≡ Some r = subst (λ (n : List ℕ). record_at n rs ≡ Some r) m.1 is in
        says_by r m.0 (found R key m.0 xs) m.1 refl (subst (λ (s : Option Record). Keeps Is (record_body s) (found R key m.0 xs)) there (keeps m.0))

    pub says_all : all_said [] rs ≡ Some xs
    says_all =
        let made = all_say [] rs (each_map (λ (r : Record). record_at r.name rs ≡ Some r) (λ (r : Record). (x : A) × (thing r ≡ Some x)) says rs (each_found text_cmp texts_total record_name rs names)) in
        let same : made.0 ≡ xs =
        one_list R total exact key made.0 xs (said_ascends [] rs made.0 refl made.1) up
        (λ k. same_kept (record_body (record_at (text k) rs)) (found R key k made.0) (found R key k xs) (said_keeps rs made.0 names made.1 k) (keeps k)) in
        made.1 ∙ ap Some same

  holds_said : (kind : ℕ) (kept : List Kept) (xs : List A) → ascends place_cmp kept_place kept ≡ true → all_said [] (records_of kind kept) ≡ Some xs → HoldsKind R key text may Is kind kept xs
  holds_said kind kept xs up e = record {
    up = said_ascends [] (records_of kind kept) xs refl e;
    all = said_may [] (records_of kind kept) xs refl e;
    keeps = λ k. subst (λ (b : Option (List ℕ)). Keeps Is b (found R key k xs)) (sym (body_is kind (text k) kept)) (said_keeps (records_of kind kept) xs (names_ascend kind kept up) e k);
    named = λ n b is. said_named (records_of kind kept) xs e n b (sym (body_is kind n kept) ∙ is);
  }

  said_held : (kind : ℕ) (kept : List Kept) (xs : List A) → ascends place_cmp kept_place kept ≡ true → HoldsKind R key text may Is kind kept xs → all_said [] (records_of kind kept) ≡ Some xs
  said_held kind kept xs up h =
      says_all (records_of kind kept) xs (names_ascend kind kept up) h.up h.all
      (λ k. subst (λ (b : Option (List ℕ)). Keeps Is b (found R key k xs)) (body_is kind (text k) kept) (h.keeps k))
      (λ n b is. h.named n b (body_is kind n kept ∙ is))

  -- the records of a kind say a list exactly where they hold it
  pub kind_holds : (kind : ℕ) (kept : List Kept) (xs : List A) → ascends place_cmp kept_place kept ≡ true → (all_said [] (records_of kind kept) ≡ Some xs) ↔ HoldsKind R key text may Is kind kept xs
  kind_holds kind kept xs up = (holds_said kind kept xs up, said_held kind kept xs up)
