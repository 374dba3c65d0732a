-- What is left of a list where an item is taken out for another one, and put back.
use Rattle.std.proofs.Common.{◌≡◌, ℕ, ℤ, Bool, true, false, cond, List, [], ◌∷◌, Some, None, refl, sym, ◌∙◌, ap}
use Rattle.std.specs.declared.option.Option.{Option}
use Rattle.std.specs.declared.cmp.Ordering.{Ordering}
use Rattle.std.specs.declared.cmp.Ordering.TheVariants.{Less, Equal, Greater}
use Rattle.std.specs.Ordering.{is_eq}
use Rattle.std.specs.Int.Signed.{lt_z}
use Rattle.std.specs.Cmp.{IsTotalOrder}
use Rattle.std.proofs.lemmas.Cmp.{tied_itself}
use Rattle.std.proofs.lemmas.Map.Lookups.{exact_bytes, CmpEqualImpliesEq}
use Rattle.mesh_list.specs.Keyed.{found, put_by, placed, without, exchanged}
use Rattle.mesh_base_values.specs.declared.values.Name.{Name}
use Rattle.mesh_base.specs.declared.snapshots.Env.{Env}
use Rattle.mesh_base_values.specs.Names.{text_cmp, name_cmp}
use Rattle.mesh_base_values.specs.NameOrder.{names_exact, names_total, texts_total}
use Rattle.mesh_base.specs.Keys.{env_name}
use Rattle.mesh_house_book.specs.Changes.{version_object, at_version, at_env, with_range, record_range}
use Rattle.mesh_house_book.specs.declared.versions.Version.{Version}
use Rattle.mesh_house_book.specs.declared.book.Book.{Book}

module _ {A K : Type 0} (R : K → K → Ordering) (key : A → K) where
  -- where no item has the key, nothing is exchanged
  pub exchanged_none : (y : A) (xs : List A) → found R key (key y) xs ≡ None → exchanged R key y xs ≡ xs
  exchanged_none y [] h = refl
  exchanged_none y (x ∷ xs) h = at (is_eq (R (key x) (key y))) (exchanged_none y xs) h
    where
      at : (b : Bool) → (found R key (key y) xs ≡ None → exchanged R key y xs ≡ xs) → cond b (Some x) (found R key (key y) xs) ≡ None → cond b (y ∷ xs) (x ∷ exchanged R key y xs) ≡ x ∷ xs
      at true more h = cc
      at false more h = ap (λ (l : List A). x ∷ l) (more h)

  -- an item that is placed where there was none of its key goes again
  pub without_placed : IsTotalOrder R → (y : A) (xs : List A) → found R key (key y) xs ≡ None → without R key (key y) (placed R key y xs) ≡ xs
  without_placed total y [] h = ap (λ (o : Ordering). cond (is_eq o) [] (y ∷ [])) (tied_itself total (key y))
  without_placed total y (x ∷ xs) h = at (R (key x) (key y)) (without_placed total y xs) refl h
    where
      at : (o : Ordering) → (found R key (key y) xs ≡ None → without R key (key y) (placed R key y xs) ≡ xs) → o ≡ R (key x) (key y) → cond (is_eq o) (Some x) (found R key (key y) xs) ≡ None → without R key (key y) (put_by o x y xs (placed R key y xs)) ≡ x ∷ xs
      at Less more e h =
          ap (λ (p : Ordering). cond (is_eq p) (placed R key y xs) (x ∷ without R key (key y) (placed R key y xs))) (sym e)
          ∙ ap (λ (l : List A). x ∷ l) (more h)
      at Equal more e h = cc
      at Greater more e h = ap (λ (p : Ordering). cond (is_eq p) (x ∷ xs) (y ∷ cond (is_eq (R (key x) (key y))) xs (x ∷ without R key (key y) xs))) (tied_itself total (key y))

  -- of two items of one key that are put there, the later stays
  pub exchanged_twice : IsTotalOrder R → (y z : A) (xs : List A) → key y ≡ key z → exchanged R key y (exchanged R key z xs) ≡ exchanged R key y xs
  exchanged_twice total y z [] same = refl
  exchanged_twice total y z (x ∷ xs) same =
      ap (λ (k : K). exchanged R key y (cond (is_eq (R (key x) k)) (z ∷ xs) (x ∷ exchanged R key z xs))) (sym same)
      ∙ at (is_eq (R (key x) (key y))) (exchanged_twice total y z xs same) refl
    where
      tied : R (key z) (key y) ≡ Equal
      tied = ap (R (key z)) same ∙ tied_itself total (key z)

      at : (b : Bool) → exchanged R key y (exchanged R key z xs) ≡ exchanged R key y xs → b ≡ is_eq (R (key x) (key y)) → exchanged R key y (cond b (z ∷ xs) (x ∷ exchanged R key z xs)) ≡ cond b (y ∷ xs) (x ∷ exchanged R key y xs)
      at true more e = ap (λ (o : Ordering). cond (is_eq o) (y ∷ xs) (z ∷ exchanged R key y xs)) tied
      at false more e =
          ap (λ (b : Bool). cond b (y ∷ exchanged R key z xs) (x ∷ exchanged R key y (exchanged R key z xs))) (sym e)
          ∙ ap (λ (l : List A). x ∷ l) more

  -- what is found by a key has that key
  pub found_key : CmpEqualImpliesEq R → (k : K) (v : A) (xs : List A) → found R key k xs ≡ Some v → key v ≡ k
  found_key exact k v [] h = cc
  found_key exact k v (x ∷ xs) h = at (R (key x) k) (found_key exact k v xs) refl h
    where
      at : (o : Ordering) → (found R key k xs ≡ Some v → key v ≡ k) → o ≡ R (key x) k → cond (is_eq o) (Some x) (found R key k xs) ≡ Some v → key v ≡ k
      at Less more e h = more h
      at Equal more e h = let is : x ≡ v = cc in ap key (sym is) ∙ exact (key x) k (sym e)
      at Greater more e h = more h

  -- the item that is found by its key is put back where it stood
  pub exchanged_itself : (v : A) (xs : List A) → found R key (key v) xs ≡ Some v → exchanged R key v xs ≡ xs
  exchanged_itself v [] h = refl
  exchanged_itself v (x ∷ xs) h = at (is_eq (R (key x) (key v))) (exchanged_itself v xs) h
    where
      at : (b : Bool) → (found R key (key v) xs ≡ Some v → exchanged R key v xs ≡ xs) → cond b (Some x) (found R key (key v) xs) ≡ Some v → cond b (v ∷ xs) (x ∷ exchanged R key v xs) ≡ x ∷ xs
      at true more h = let is : x ≡ v = cc in ap (λ (w : A). w ∷ xs) (sym is)
      at false more h = ap (λ (l : List A). x ∷ l) (more h)

-- the version of an object changes where it is taken out for another one and put back changed
module _ (f : Version → Version) (b : Book) (object : Name) (blank : Version) (same : blank.object ≡ object) where
  abbrev at : Option Version
  at = found name_cmp version_object object b.versions

  moved : (o : Option Version) → found name_cmp version_object blank.object b.versions ≡ o → at ≡ o
  moved o h = ap (λ (n : Name). found name_cmp version_object n b.versions) (sym same) ∙ h

  pub version_absent : (vs : List Version) → found name_cmp version_object blank.object b.versions ≡ None → vs ≡ exchanged name_cmp version_object blank b.versions → record b { versions = vs } ≡ at_version at f b
  version_absent vs h first =
      ap (λ (l : List Version). record b { versions = l }) (first ∙ exchanged_none name_cmp version_object blank b.versions h)
      ∙ sym (ap (λ (o : Option Version). at_version o f b) (moved None h))

  pub version_changed : (v : Version) (us vs : List Version) → found name_cmp version_object blank.object b.versions ≡ Some v → (f v).object ≡ v.object → us ≡ exchanged name_cmp version_object blank b.versions → vs ≡ exchanged name_cmp version_object (f v) us → record b { versions = vs } ≡ at_version at f b
  version_changed v us vs h keeps first second =
      let there : v.object ≡ blank.object = found_key name_cmp version_object names_exact blank.object v b.versions h in
      ap (λ (l : List Version). record b { versions = l })
      (second ∙ ap (exchanged name_cmp version_object (f v)) first
      ∙ exchanged_twice name_cmp version_object names_total (f v) blank b.versions (keeps ∙ there))
      ∙ sym (ap (λ (o : Option Version). at_version o f b) (moved (Some v) h))

-- the versions are as they were where one is taken out for another one and put back
pub version_back : (vs us ws : List Version) (blank v : Version) → found name_cmp version_object blank.object vs ≡ Some v → us ≡ exchanged name_cmp version_object blank vs → ws ≡ exchanged name_cmp version_object v us → ws ≡ vs
version_back vs us ws blank v h first second =
    let there : v.object ≡ blank.object = found_key name_cmp version_object names_exact blank.object v vs h in
    second ∙ ap (exchanged name_cmp version_object v) first
    ∙ exchanged_twice name_cmp version_object names_total v blank vs there
    ∙ exchanged_itself name_cmp version_object v vs (ap (λ (n : Name). found name_cmp version_object n vs) there ∙ h)

-- the same for environments
module _ (f : Env → Env) (b : Book) (name : List ℕ) (blank : Env) (same : blank.name ≡ name) where
  abbrev env_at : Option Env
  env_at = found text_cmp env_name name b.environments

  env_moved : (o : Option Env) → found text_cmp env_name blank.name b.environments ≡ o → env_at ≡ o
  env_moved o h = ap (λ (n : List ℕ). found text_cmp env_name n b.environments) (sym same) ∙ h

  pub env_absent : (es : List Env) → found text_cmp env_name blank.name b.environments ≡ None → es ≡ exchanged text_cmp env_name blank b.environments → record b { environments = es } ≡ at_env env_at f b
  env_absent es h first =
      ap (λ (l : List Env). record b { environments = l }) (first ∙ exchanged_none text_cmp env_name blank b.environments h)
      ∙ sym (ap (λ (o : Option Env). at_env o f b) (env_moved None h))

  pub env_changed : (v : Env) (us es : List Env) → found text_cmp env_name blank.name b.environments ≡ Some v → (f v).name ≡ v.name → us ≡ exchanged text_cmp env_name blank b.environments → es ≡ exchanged text_cmp env_name (f v) us → record b { environments = es } ≡ at_env env_at f b
  env_changed v us es h keeps first second =
      let there : v.name ≡ blank.name = found_key text_cmp env_name exact_bytes blank.name v b.environments h in
      ap (λ (l : List Env). record b { environments = l })
      (second ∙ ap (exchanged text_cmp env_name (f v)) first
      ∙ exchanged_twice text_cmp env_name texts_total (f v) blank b.environments (keeps ∙ there))
      ∙ sym (ap (λ (o : Option Env). at_env o f b) (env_moved (Some v) h))

-- a range is recorded exactly where its start is below its end
module _ (b : Book) (object : Name) (start end : ℤ) where
  abbrev recorded : Book
  recorded = at_version (found name_cmp version_object object b.versions) (with_range start end) b

  pub range_recorded : lt_z start end ≡ true → recorded ≡ record_range b object start end
  range_recorded h = sym (ap (λ (t : Bool). cond t recorded b) h)

  pub range_empty : lt_z start end ≡ false → b ≡ record_range b object start end
  range_empty h = sym (ap (λ (t : Bool). cond t recorded b) h)
