-- The versions of a book where one of them changes, and changes again.
use Rattle.std.proofs.Common.{◌≡◌, refl, sym, ◌∙◌, ap, Bool, true, false, cond, List, [], ◌∷◌, ◌++◌, Some, None, ℤ}
use Rattle.std.specs.declared.option.Option.{Option}
use Rattle.std.specs.declared.cmp.Ordering.{Ordering}
use Rattle.std.specs.declared.cmp.Ordering.TheVariants.{Equal}
use Rattle.std.specs.Ordering.{is_eq}
use Rattle.std.specs.Cmp.{IsTotalOrder}
use Rattle.std.specs.Int.Signed.{lt_z}
use Rattle.std.proofs.lemmas.Cmp.{tied_itself}
use Rattle.mesh_list.specs.Keyed.{found, exchanged}
use Rattle.mesh_base_values.specs.declared.times.Bounds.{Bounds}
use Rattle.mesh_base_values.specs.declared.values.Name.{Name}
use Rattle.mesh_base_values.specs.Names.{name_cmp}
use Rattle.mesh_base_values.specs.NameOrder.{names_exact, names_total}
use Rattle.mesh_time.specs.Edits.{spans_without, spans_without_each}
use Rattle.mesh_base.specs.declared.forgets.Forget.{Forget}
use Rattle.mesh_base.specs.declared.forgets.Forget.TheVariants.{Range, Marks}
use Rattle.mesh_house_book.specs.declared.book.Book.{Book}
use Rattle.mesh_house_book.specs.declared.versions.Version.{Version}
use Rattle.mesh_house_book.specs.Changes.{at_version, version_object}
use Rattle.mesh_house_book.proofs.Exchanged.{exchanged_twice, found_key}
use Rattle.mesh_house_book.specs.moves.Forgets.{forget, forget_units, without_range, without_marks}
use Rattle.mesh_house_book.specs.moves.Held.{all_forgotten, changed, changed_for, forgotten, without_spans}

module _ {A K : Type 0} (R : K → K → Ordering) (total : IsTotalOrder R) (key : A → K) where
  -- an item that was put in the place of one of its key is found there
  found_exchanged : (k : K) (v y : A) (xs : List A) → key y ≡ k → found R key k xs ≡ Some v → found R key k (exchanged R key y xs) ≡ Some y
  found_exchanged k v y [] same h = cc
  found_exchanged k v y (x ∷ xs) same h =
      ap (λ (n : K). found R key k (cond (is_eq (R (key x) n)) (y ∷ xs) (x ∷ exchanged R key y xs))) same
      ∙ at (is_eq (R (key x) k)) refl (found_exchanged k v y xs same) h
    where
      tied : R (key y) k ≡ Equal
      tied = ap (R (key y)) (sym same) ∙ tied_itself total (key y)

      at : (b : Bool) → is_eq (R (key x) k) ≡ b → (found R key k xs ≡ Some v → found R key k (exchanged R key y xs) ≡ Some y) → cond b (Some x) (found R key k xs) ≡ Some v → found R key k (cond b (y ∷ xs) (x ∷ exchanged R key y xs)) ≡ Some y
      at true e more h = ap (λ (o : Ordering). cond (is_eq o) (Some y) (found R key k xs)) tied
      at false e more h = ap (λ (b : Bool). cond b (Some x) (found R key k (exchanged R key y xs))) e ∙ more h

-- two changes of one version are one
pub changed_twice : (object : Name) (f g : Version → Version) (vs : List Version) → ((v : Version) → (f v).object ≡ v.object) → ((v : Version) → (g v).object ≡ v.object) → changed object f (changed object g vs) ≡ changed object (λ v. f (g v)) vs
changed_twice object f g vs keeps_f keeps_g = at (found name_cmp version_object object vs) refl
  where
    at : (o : Option Version) → found name_cmp version_object object vs ≡ o → changed object f (changed_for o g vs) ≡ changed_for o (λ v. f (g v)) vs
    at None e = ap (λ (o : Option Version). changed_for o f vs) e
    at (Some v) e =
        let there : v.object ≡ object = found_key name_cmp version_object names_exact object v vs e in
        ap (λ (o : Option Version). changed_for o f (exchanged name_cmp version_object (g v) vs)) (found_exchanged name_cmp names_total version_object object v (g v) vs (keeps_g v ∙ there) e)
        ∙ exchanged_twice name_cmp version_object names_total (f (g v)) (g v) vs (keeps_f (g v))

-- the book's versions change
abbrev pub over : Book → List Version → Book
over b vs = record b { versions = vs }

at_version_is : (b : Book) (f : Version → Version) (o : Option Version) → at_version o f b ≡ over b (changed_for o f b.versions)
at_version_is b f None = refl
at_version_is b f (Some v) = refl

forget_is : (b : Book) (x : Forget) → forget b x ≡ over b (forgotten b.versions x)
forget_is b (Marks object) = at_version_is b without_marks (found name_cmp version_object object b.versions)
forget_is b (Range object start last) = at (lt_z start last)
  where
    at : (t : Bool) → cond t (at_version (found name_cmp version_object object b.versions) (without_range start last) b) b ≡ over b (cond t (changed object (without_range start last) b.versions) b.versions)
    at true = at_version_is b (without_range start last) (found name_cmp version_object object b.versions)
    at false = refl

pub all_forgotten_is : (b : Book) (list : List Forget) → over b (all_forgotten b.versions list) ≡ forget_units b list
all_forgotten_is b [] = refl
all_forgotten_is b (x ∷ xs) = all_forgotten_is (over b (forgotten b.versions x)) xs ∙ ap (λ (c : Book). forget_units c xs) (sym (forget_is b x))

-- one span more is held
each_more : (spans : List Bounds) (start last : ℤ) (xs : List Bounds) → lt_z start last ≡ true → spans_without_each (spans ++ record { start = start; end = last } ∷ []) xs ≡ spans_without start last (spans_without_each spans xs)
each_more [] start last xs h = ap (λ (t : Bool). cond t (spans_without start last xs) xs) h
each_more (b ∷ bs) start last xs h = each_more bs start last (cond (lt_z b.start b.end) (spans_without b.start b.end xs) xs) h

-- a range with a second is forgotten
forgotten_some : (vs : List Version) (object : Name) (start last : ℤ) → lt_z start last ≡ true → changed object (without_range start last) vs ≡ forgotten vs (Range object start last)
forgotten_some vs object start last h = sym (ap (λ (t : Bool). cond t (changed object (without_range start last) vs) vs) h)

pub forgotten_none : (vs : List Version) (object : Name) (start last : ℤ) → lt_z start last ≡ false → vs ≡ forgotten vs (Range object start last)
forgotten_none vs object start last h = sym (ap (λ (t : Bool). cond t (changed object (without_range start last) vs) vs) h)

pub holds_more : (object : Name) (spans : List Bounds) (start last : ℤ) (vs : List Version) → lt_z start last ≡ true → changed object (without_spans (spans ++ record { start = start; end = last } ∷ [])) vs ≡ forgotten (changed object (without_spans spans) vs) (Range object start last)
holds_more object spans start last vs h =
    (λ i. changed object (λ v. record v { ranges = each_more spans start last v.ranges h i }) vs)
    ∙ sym (changed_twice object (without_range start last) (without_spans spans) vs (λ v. refl) (λ v. refl))
    ∙ forgotten_some (changed object (without_spans spans) vs) object start last h

pub holds_first : (object : Name) (start last : ℤ) (vs : List Version) → lt_z start last ≡ true → changed object (without_spans (record { start = start; end = last } ∷ [])) vs ≡ forgotten vs (Range object start last)
holds_first object start last vs h =
    (λ i. changed object (λ v. record v { ranges = each_more [] start last v.ranges h i }) vs)
    ∙ forgotten_some vs object start last h
