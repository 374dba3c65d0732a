-- None, one or several: lists joined, and indexes that grow.
use Rattle.std.proofs.Common.{◌≡◌, ◌≢◌, ℕ, suc, ◌+◌, ◌<◌, Bool, true, false, ◌||◌, cond, List, [], ◌∷◌, ◌++◌, length, take, get_or, Option, None, Some, refl, sym, ap, ◌∙◌, arith}
use Rattle.std.specs.List.{list_any, flat_map}
use Rattle.std.specs.Option.{IfSome, is_some}
use Rattle.std.specs.BTreeMap.{BTreeMap, Updates, get}
use Rattle.std.proofs.lemmas.List.{append-nil, take_more, flat_map_more}
use Rattle.mesh_base_values.specs.Names.{text_cmp}
use Rattle.mesh_base_values.specs.Picked.{same_text}
use Rattle.mesh_base_values.specs.declared.values.Column.{Column}
use Rattle.mesh_base_values.proofs.Equals.{text_is as same_name}
use Rattle.mesh_resolve_scope.specs.declared.sight.sight.Seen.{Seen}
use Rattle.mesh_resolve_scope.specs.declared.sight.sight.Meant.{Meant}
use Rattle.mesh_resolve_scope.specs.sight.Sight.{meant, meant_by, meant_column, meant_in, is_column, is_there}
use Rattle.mesh_resolve_scope.specs.sight.Sole.{sole, sole_of_both, places_from, IsIndexed}

-- names of unlike length are two
pub unlike_lengths : (a b : List ℕ) → length a ≢ length b → false ≡ same_text a b
unlike_lengths a b apart = by_same (same_text a b) refl
  where
    by_same : (same : Bool) → same_text a b ≡ same → false ≡ same
    by_same true is = absurd (apart (ap length (same_name a b is)))
    by_same false is = refl

module _ {A : Type 0} where
  pub sole_of_none : (a : Option (Option A)) → sole_of_both a None ≡ a
  sole_of_none None = refl
  sole_of_none (Some x) = refl

  pub sole_in_turn : (a b c : Option (Option A)) → sole_of_both (sole_of_both a b) c ≡ sole_of_both a (sole_of_both b c)
  sole_in_turn None b c = refl
  sole_in_turn (Some x) None c = refl
  sole_in_turn (Some x) (Some y) None = refl
  sole_in_turn (Some x) (Some y) (Some z) = refl

  pub sole-append : (xs ys : List A) → sole (xs ++ ys) ≡ sole_of_both (sole xs) (sole ys)
  sole-append [] ys = refl
  sole-append (x ∷ []) [] = refl
  sole-append (x ∷ []) (y ∷ []) = refl
  sole-append (x ∷ []) (y ∷ z ∷ zs) = refl
  sole-append (x ∷ w ∷ xs) [] = refl
  sole-append (x ∷ w ∷ xs) (y ∷ []) = refl
  sole-append (x ∷ w ∷ xs) (y ∷ z ∷ zs) = refl

  -- an index with one more of a name
  pub one_more_of : (old new : BTreeMap (List ℕ) (Option A)) (name key : List ℕ) (w : Option (Option A)) (x : A) → key ≡ name → w ≡ sole_of_both (get text_cmp old name) (Some (Some x))
      → Updates text_cmp old new key w → (q : List ℕ) → get text_cmp new q ≡ cond (same_text name q) (sole_of_both (get text_cmp old q) (Some (Some x))) (get text_cmp old q)
  one_more_of old new name key w x is now updates q = updates.0 q ∙ ap (λ k. cond (same_text k q) w (get text_cmp old q)) is ∙ by_name (same_text name q) refl
    where
      by_name : (b : Bool) → same_text name q ≡ b → cond b w (get text_cmp old q) ≡ cond b (sole_of_both (get text_cmp old q) (Some (Some x))) (get text_cmp old q)
      by_name true same = now ∙ ap (λ n. sole_of_both (get text_cmp old n) (Some (Some x))) (same_name name q same)
      by_name false same = refl

  -- a name that has several has several still
  pub still_several : (old : BTreeMap (List ℕ) (Option A)) (name : List ℕ) (x : A) → get text_cmp old name ≡ Some None
      → (q : List ℕ) → get text_cmp old q ≡ cond (same_text name q) (sole_of_both (get text_cmp old q) (Some (Some x))) (get text_cmp old q)
  still_several old name x several q = by_name (same_text name q) refl
    where
      by_name : (b : Bool) → same_text name q ≡ b → get text_cmp old q ≡ cond b (sole_of_both (get text_cmp old q) (Some (Some x))) (get text_cmp old q)
      by_name true same =
          let is : get text_cmp old q ≡ Some None = ap (get text_cmp old) (sym (same_name name q same)) ∙ several in
          is ∙ sym (ap (λ (o : Option (Option A)). sole_of_both o (Some (Some x))) is)
      by_name false same = refl

  -- one more element of a list
  pub sole_more : {X : Type 0} (f : X → List A) (xs : List X) (i : ℕ) (x : X) → i < length xs → x ≡ get_or xs i x
      → sole (flat_map f (take (i + 1) xs)) ≡ sole_of_both (sole (flat_map f (take i xs))) (sole (f x))
  sole_more f xs i x lt is =
      ap (λ l. sole (flat_map f l)) (take_more xs i x lt ∙ ap (λ e. take i xs ++ e ∷ []) (sym is))
      ∙ ap sole (sym (flat_map_more f [] (take i xs) x)) ∙ sole-append (flat_map f (take i xs)) (f x)

-- one more column of a FROM item
pub one_more_column : (old now next : BTreeMap (List ℕ) (Option Meant)) (d : Seen) (cs : List Column) (i : ℕ) (c : Column) → i < length cs → c ≡ get_or cs i c
    → ((name : List ℕ) → get text_cmp now name ≡ sole_of_both (get text_cmp old name) (sole (flat_map (meant_column name d) (take i cs))))
    → ((name : List ℕ) → get text_cmp next name ≡ cond (same_text c.name name) (sole_of_both (get text_cmp now name) (Some (Some (record { item = d.place; kind = c.kind })))) (get text_cmp now name))
    → (name : List ℕ) → get text_cmp next name ≡ sole_of_both (get text_cmp old name) (sole (flat_map (meant_column name d) (take (i + 1) cs)))
one_more_column old now next d cs i c lt is so_far more name =
    more name ∙ by_name (same_text c.name name) (get text_cmp now name) ∙ ap (λ o. sole_of_both o (sole (meant_column name d c))) (so_far name)
    ∙ sole_in_turn (get text_cmp old name) (sole (flat_map (meant_column name d) (take i cs))) (sole (meant_column name d c))
    ∙ ap (sole_of_both (get text_cmp old name)) (sym (sole_more (meant_column name d) cs i c lt is))
  where
    meaning : Meant
    meaning = record { item = d.place; kind = c.kind }

    by_name : (b : Bool) (o : Option (Option Meant)) → cond b (sole_of_both o (Some (Some meaning))) o ≡ sole_of_both o (sole (cond b (meaning ∷ []) []))
    by_name true o = refl
    by_name false o = sym (sole_of_none o)

-- where the FROM items of a name stand, with one more item
places-more : (n : ℕ) (name : List ℕ) (ds : List Seen) (d : Seen) → places_from n name (ds ++ d ∷ []) ≡ places_from n name ds ++ cond (same_text d.name name) ((n + length ds) ∷ []) []
places-more n name [] d = ap (λ (m : ℕ). cond (same_text d.name name) (m ∷ []) []) here
  where
    here : n ≡ n + 0
    here = omega arith
places-more n name (e ∷ ds) d =
    ap (λ l. cond (same_text e.name name) (n ∷ l) l) (places-more (suc n) name ds d ∙ ap (λ (m : ℕ). places_from (suc n) name ds ++ cond (same_text d.name name) (m ∷ []) []) further)
    ∙ by_first (same_text e.name name) (places_from (suc n) name ds) (cond (same_text d.name name) ((n + suc (length ds)) ∷ []) [])
  where
    further : suc n + length ds ≡ n + suc (length ds)
    further = omega arith

    by_first : (b : Bool) (l more : List ℕ) → cond b (n ∷ (l ++ more)) (l ++ more) ≡ cond b (n ∷ l) l ++ more
    by_first true l more = refl
    by_first false l more = refl

-- one more FROM item
pub one_more_seen : (from all : List Seen) (d : Seen) (n : ℕ) (columns newer : BTreeMap (List ℕ) (Option Meant)) (places later : BTreeMap (List ℕ) (Option ℕ)) → IsIndexed from columns places
    → n ≡ length from → all ≡ from ++ d ∷ []
    → ((name : List ℕ) → get text_cmp newer name ≡ sole_of_both (get text_cmp columns name) (sole (meant_in name d)))
    → ((name : List ℕ) → get text_cmp later name ≡ cond (same_text d.name name) (sole_of_both (get text_cmp places name) (Some (Some n))) (get text_cmp places name))
    → IsIndexed all newer later
one_more_seen from all d n columns newer places later indexed count is by_columns by_places = record { by_column = λ name. column_of name; by_item = λ name. item_of name }
  where
    column_of : (name : List ℕ) → get text_cmp newer name ≡ sole (meant None name all)
    column_of name =
        by_columns name ∙ ap (λ o. sole_of_both o (sole (meant_in name d))) (indexed.by_column name) ∙ sym (sole-append (meant None name from) (meant_in name d))
        ∙ ap sole (flat_map_more (meant_by None name) [] from d) ∙ ap (λ l. sole (meant None name l)) (sym is)

    by_name : (b : Bool) (o : Option (Option ℕ)) → cond b (sole_of_both o (Some (Some (length from)))) o ≡ sole_of_both o (sole (cond b ((length from) ∷ []) []))
    by_name true o = refl
    by_name false o = sym (sole_of_none o)

    item_of : (name : List ℕ) → get text_cmp later name ≡ sole (places_from 0 name all)
    item_of name =
        by_places name ∙ ap (λ (m : ℕ). cond (same_text d.name name) (sole_of_both (get text_cmp places name) (Some (Some m))) (get text_cmp places name)) count
        ∙ by_name (same_text d.name name) (get text_cmp places name) ∙ ap (λ o. sole_of_both o (sole (cond (same_text d.name name) ((length from) ∷ []) []))) (indexed.by_item name)
        ∙ sym (sole-append (places_from 0 name from) (cond (same_text d.name name) ((length from) ∷ []) []))
        ∙ ap sole (ap (λ (m : ℕ). places_from 0 name from ++ cond (same_text d.name name) (m ∷ []) []) none_before ∙ sym (places-more 0 name from d)) ∙ ap (λ l. sole (places_from 0 name l)) (sym is)
      where
        none_before : length from ≡ 0 + length from
        none_before = omega arith

some_of_both : {A : Type 0} (a b : Option (Option A)) → is_some (sole_of_both a b) ≡ (is_some a || is_some b)
some_of_both None b = refl
some_of_both (Some x) None = refl
some_of_both (Some x) (Some y) = refl

some_first : {A : Type 0} (x : A) (xs : List A) → is_some (sole (x ∷ xs)) ≡ true
some_first x [] = refl
some_first x (y ∷ ys) = refl

column_there : (name : List ℕ) (d : Seen) (cs : List Column) → list_any (λ (c : Column). same_text c.name name) cs ≡ is_some (sole (flat_map (meant_column name d) cs))
column_there name d [] = refl
column_there name d (c ∷ cs) =
    by_first (same_text c.name name) (column_there name d cs)
  where
    meaning : Meant
    meaning = record { item = d.place; kind = c.kind }

    by_first : (b : Bool) → list_any (λ (e : Column). same_text e.name name) cs ≡ is_some (sole (flat_map (meant_column name d) cs))
        → (b || list_any (λ (e : Column). same_text e.name name) cs) ≡ is_some (sole (cond b (meaning ∷ []) [] ++ flat_map (meant_column name d) cs))
    by_first true more = sym (some_first meaning (flat_map (meant_column name d) cs))
    by_first false more = more

-- a column has a name where that may mean something
pub is_column_where : (name : List ℕ) (from : List Seen) → is_column name from ≡ is_some (sole (meant None name from))
is_column_where name [] = refl
is_column_where name (d ∷ ds) =
    ap (λ b. b || is_column name ds) (column_there name d d.columns) ∙ ap (λ b. is_some (sole (meant_in name d)) || b) (is_column_where name ds)
    ∙ sym (some_of_both (sole (meant_in name d)) (sole (meant None name ds))) ∙ ap is_some (sym (sole-append (meant_in name d) (meant None name ds)))

-- a FROM item has a name where that has a place
pub is_there_where : (n : ℕ) (name : List ℕ) (from : List Seen) → is_there name from ≡ is_some (sole (places_from n name from))
is_there_where n name [] = refl
is_there_where n name (d ∷ ds) = by_first (same_text d.name name) (is_there_where (suc n) name ds)
  where
    by_first : (b : Bool) → is_there name ds ≡ is_some (sole (places_from (suc n) name ds)) → (b || is_there name ds) ≡ is_some (sole (cond b (n ∷ places_from (suc n) name ds) (places_from (suc n) name ds)))
    by_first true more = sym (some_first n (places_from (suc n) name ds))
    by_first false more = more

sole_none : {A : Type 0} (xs : List A) → sole xs ≡ None → xs ≡ []
sole_none [] is = refl
sole_none (x ∷ []) is = absurd (let clash : Some (Some x) ≡ None = is in cc)
sole_none (x ∷ y ∷ ys) is = absurd (let clash : Some None ≡ None = is in cc)

nowhere : (n : ℕ) (item name : List ℕ) (ds : List Seen) → places_from n item ds ≡ [] → meant (Some item) name ds ≡ []
nowhere n item name [] none = refl
nowhere n item name (d ∷ ds) none = by_first (same_text d.name item) (nowhere (suc n) item name ds) none
  where
    by_first : (b : Bool) → (places_from (suc n) item ds ≡ [] → meant (Some item) name ds ≡ []) → cond b (n ∷ places_from (suc n) item ds) (places_from (suc n) item ds) ≡ [] → (cond b (meant_in name d) [] ++ meant (Some item) name ds) ≡ []
    by_first true more none = absurd (let clash : n ∷ places_from (suc n) item ds ≡ [] = none in cc)
    by_first false more none = more none

-- a name that no FROM item has means nothing
pub means_nothing : (item name : List ℕ) (from : List Seen) → sole (places_from 0 item from) ≡ None → meant (Some item) name from ≡ []
means_nothing item name from none = nowhere 0 item name from (sole_none (places_from 0 item from) none)

-- the one FROM item of a name
pub record OnlyAt (n at : ℕ) (item name : List ℕ) (ds : List Seen) : Type 0 where
  pub offset : ℕ
  pub at_is : at ≡ n + offset
  pub within : offset < length ds
  pub only : (e : Seen) → meant (Some item) name ds ≡ meant_in name (get_or ds offset e)

sole_first : (n at : ℕ) (more : List ℕ) → sole (n ∷ more) ≡ Some (Some at) → (at ≡ n) × (more ≡ [])
sole_first n at [] is = (let e : Some (Some n) ≡ Some (Some at) = is in cc, refl)
sole_first n at (m ∷ ms) is = absurd (let clash : Some None ≡ Some (Some at) = is in cc)

pub only_at : (n at : ℕ) (item name : List ℕ) (ds : List Seen) → sole (places_from n item ds) ≡ Some (Some at) → OnlyAt n at item name ds
only_at n at item name [] is = absurd (let clash : None ≡ Some (Some at) = is in cc)
only_at n at item name (d ∷ ds) is = by_first (same_text d.name item) (only_at (suc n) at item name ds) refl is
  where
    by_first : (b : Bool) → (sole (places_from (suc n) item ds) ≡ Some (Some at) → OnlyAt (suc n) at item name ds) → same_text d.name item ≡ b → sole (cond b (n ∷ places_from (suc n) item ds) (places_from (suc n) item ds)) ≡ Some (Some at) → OnlyAt n at item name (d ∷ ds)
    by_first true more same is =
        let first = sole_first n at (places_from (suc n) item ds) is in
        record {
          offset = 0;
          at_is = first.0 ∙ here;
          within = omega arith;
          only = λ e. ap (λ b. cond b (meant_in name d) [] ++ meant (Some item) name ds) same ∙ ap (λ l. meant_in name d ++ l) (nowhere (suc n) item name ds first.1) ∙ append-nil (meant_in name d);
        }
      where
        here : n ≡ n + 0
        here = omega arith
    by_first false more apart is =
        let rest : OnlyAt (suc n) at item name ds = more is in
        record {
          offset = suc rest.offset;
          at_is = omega (arith, rest.at_is);
          within = omega (arith, rest.within);
          only = λ e. ap (λ b. cond b (meant_in name d) [] ++ meant (Some item) name ds) apart ∙ rest.only e;
        }

pub place_within : (item : List ℕ) (from : List Seen) (o : Option (Option ℕ)) → o ≡ sole (places_from 0 item from) → IfSome o (λ only. IfSome only (λ at. at < length from))
place_within item from None is = tt
place_within item from (Some None) is = tt
place_within item from (Some (Some at)) is = let only = only_at 0 at item [] from (sym is) in omega (arith, only.at_is, only.within)

-- what a name means by the one FROM item that it names
pub means_there : (item name : List ℕ) (from : List Seen) (at : ℕ) (e : Seen) → sole (places_from 0 item from) ≡ Some (Some at) → meant (Some item) name from ≡ meant_in name (get_or from at e)
means_there item name from at e is =
    let only = only_at 0 at item name from is in
    let here : only.offset ≡ at = omega (arith, only.at_is) in
    only.only e ∙ ap (λ (i : ℕ). meant_in name (get_or from i e)) here
