-- Where models stand by their names, and the places of those that each one reads.
use Rattle.std.proofs.Common.{◌≡◌, ℕ, zero, suc, ◌+◌, ◌<◌, Bool, true, false, cond, ◌&&◌, ◌||◌, eqb, List, [], ◌∷◌, ◌++◌, length, get_or, map, take, Some, None, refl, ap, sym, ◌∙◌, subst, inl, inr, arith}
use Rattle.std.specs.Prelude.{nat_lt, slice_index, slice_index_or, slice_get}
use Rattle.std.specs.List.{cons_option, filter_map}
use Rattle.std.specs.Option.{option_to_list}
use Rattle.std.specs.Map.{keys_of, values_of}
use Rattle.std.specs.BTreeMap.{BTreeMap, IsOrdered, Updates, get, values}
use Rattle.std.specs.Ordering.{is_eq}
use Rattle.std.specs.declared.cmp.Ordering.TheVariants.{Less}
use Rattle.std.specs.declared.option.Option.{Option}
use Rattle.std.proofs.lemmas.Bool.{eqb-true, eq-eqb, lt-ltb, ltb-true, cases_lt}
use Rattle.std.proofs.lemmas.Cmp.{tied_itself}
use Rattle.std.proofs.lemmas.List.{get_or_default, length-map, take_more}
use Rattle.std.proofs.lemmas.List.Elements.{All-from_get_or, filter_map-append}
use Rattle.std.proofs.lemmas.Map.Entries.{btree_map_get_place, length-values_of, length-keys_of, place_from_lookup}
use Rattle.std.proofs.lemmas.Map.Keys.{IsDistinct-from_apart, Less-from_sorted}
use Rattle.std.proofs.lemmas.Map.Steps.{length-le_from_distinct_below}
use Rattle.mesh_base_values.specs.declared.values.Name.{Name}
use Rattle.mesh_base_values.specs.Names.{name_cmp}
use Rattle.mesh_base_values.specs.NameOrder.{names_total}
use Rattle.mesh_base_values.proofs.Equals.{name_is as same_name}
use Rattle.mesh_project.specs.declared.order.readers.Reader.{Reader}
use Rattle.mesh_project.specs.order.Order.{AreApart, is_named, name_at, reader_at, reads}
use Rattle.mesh_project.specs.order.Links.{AreByName, AreLinks, ArePlaces, IsBelow, IsPlaceOf, has}
use Rattle.mesh_project.proofs.order.Numbers.{place_of}

pub equal_itself : (a : Name) → is_eq (name_cmp a a) ≡ true
equal_itself a = ap is_eq (tied_itself names_total a)

-- one model more
module _ (models : List Reader) (count : ℕ) where
  place_more : (key name : Name) (o : Option ℕ) (b : Bool) → key ≡ name_at models count → is_eq (name_cmp key name) ≡ b → IsPlaceOf models count name o → IsPlaceOf models (count + 1) name (cond b (Some count) o)
  place_more key name o true same e h = (omega arith, sym same ∙ same_name key name e)
  place_more key name (Some at) false same e h = (omega (arith, h.0), h.1)
  place_more key name None false same e h = λ at l is. elim (cases_lt at count) [
    | inl below ↦ h at below is
    | inr over ↦
        let last : at ≡ count = omega arith in
        let names : key ≡ name = same ∙ ap (name_at models) (sym last) ∙ is in
        absurd (let t = ap (λ (k : Name). is_eq (name_cmp k name)) names ∙ equal_itself name in cc)
  ]

  pub one_more_place : (key : Name) (old new : BTreeMap Name ℕ) → key ≡ name_at models count → Updates name_cmp old new key (Some count)
      → ((name : Name) → IsPlaceOf models count name (get name_cmp old name)) → (name : Name) → IsPlaceOf models (count + 1) name (get name_cmp new name)
  one_more_place key old new same updates h name =
      rw (updates.0 name) (place_more key name (get name_cmp old name) (is_eq (name_cmp key name)) same refl (h name))

module _ (models : List Reader) (apart : AreApart models) (places : BTreeMap Name ℕ) (known : ArePlaces models places) where
  -- the place that is found for a name
  found_is : (name : Name) (at : ℕ) → get name_cmp places name ≡ Some at → (at < length models) × (name_at models at ≡ name)
  found_is name at e = subst (IsPlaceOf models (length models) name) e (known name)

  found_at : (at : ℕ) → at < length models → get name_cmp places (name_at models at) ≡ Some at
  found_at at l = by (get name_cmp places (name_at models at)) (known (name_at models at))
    where
      by : (o : Option ℕ) → IsPlaceOf models (length models) (name_at models at) o → o ≡ Some at
      by None h = absurd (h at l refl)
      by (Some k) h = ap (λ (m : ℕ). Some m) (apart k at h.0 l h.1)

  missing : (x b y : Bool) → (x ≡ true → b ≡ true → ⊥) → (x && y) ≡ (x && (b || y))
  missing true true y f = absurd (f refl refl)
  missing true false y f = refl
  missing false b y f = refl

  present : (e r x b y : Bool) → r ≡ (x && y) → (e ≡ true → (x ≡ true) × (b ≡ true)) → (x ≡ true → b ≡ true → e ≡ true) → (e || r) ≡ (x && (b || y))
  present true r true true y m f g = refl
  present true r true false y m f g = absurd (let t = (f refl).1 in cc)
  present true r false b y m f g = absurd (let t = (f refl).0 in cc)
  present false r true true y m f g = absurd (let t = g refl refl in cc)
  present false r true false y m f g = m
  present false r false b y m f g = m

  is_last : Name → ℕ → Bool
  is_last name other = is_eq (name_cmp name (name_at models other))

  -- a name's place is among those of names just where the name is among them
  linked : (names : List Name) (other : ℕ) → has (filter_map (get name_cmp places) names) other ≡ (nat_lt other (length models) && is_named names (name_at models other))
  linked [] other = and_no (nat_lt other (length models))
    where
      and_no : (b : Bool) → false ≡ (b && false)
      and_no true = refl
      and_no false = refl
  linked (name ∷ names) other = by (get name_cmp places name) (known name) (linked names other)
    where
      by : (o : Option ℕ) → IsPlaceOf models (length models) name o
          → has (filter_map (get name_cmp places) names) other ≡ (nat_lt other (length models) && is_named names (name_at models other))
          → has (cons_option o (filter_map (get name_cmp places) names)) other ≡ (nat_lt other (length models) && is_named (name ∷ names) (name_at models other))
      by None h more =
          more
          ∙ missing (nat_lt other (length models)) (is_eq (name_cmp name (name_at models other))) (is_named names (name_at models other))
          (λ x b. h other (ltb-true _ _ x) (sym (same_name name (name_at models other) b)))
      by (Some at) h more =
          present (eqb other at) (has (filter_map (get name_cmp places) names) other) (nat_lt other (length models)) (is_eq (name_cmp name (name_at models other))) (is_named names (name_at models other))
          more
          (λ e. let same : other ≡ at = eqb-true other at e in
          (lt-ltb other (length models) (let l = h.0 in omega arith), ap (λ m. is_eq (name_cmp name (name_at models m))) same ∙ ap (λ m. is_eq (name_cmp name m)) h.1 ∙ equal_itself name))
          (λ x b. eq-eqb other at (apart other at (ltb-true _ _ x) h.0 (sym (same_name name (name_at models other) b) ∙ sym h.1)))

  pub are_links : (links : List (List ℕ)) → links ≡ map (λ (r : Reader). filter_map (get name_cmp places) r.reads) models → AreLinks models links
  are_links links e = record {
    as_many = ap length e ∙ length-map models (λ (r : Reader). filter_map (get name_cmp places) r.reads);
    same = λ at other. ap (λ l. has (slice_index_or l at []) other) e ∙ at_place at other;
  }
    where
      at_place : (at other : ℕ) → has (slice_index_or (map (λ (r : Reader). filter_map (get name_cmp places) r.reads) models) at []) other ≡ reads models at other
      at_place at other = ap (λ l. has l other) (read_of models at) ∙ linked (reader_at models at).reads other
        where
          read_of : (rs : List Reader) (k : ℕ) → slice_index_or (map (λ (r : Reader). filter_map (get name_cmp places) r.reads) rs) k [] ≡ filter_map (get name_cmp places) (reader_at rs k).reads
          read_of [] k = refl
          read_of (r ∷ rs) zero = refl
          read_of (r ∷ rs) (suc k) = read_of rs k

  -- an entry of the map
  module _ (ordered : IsOrdered name_cmp places) where
    abbrev es : List (Name × ℕ)
    es = places.entries

    abbrev nobody : Name
    nobody = record { schema = []; model = [] }

    entry_is : (k : ℕ) → k < length es → (slice_index (values places) k < length models) × (name_at models (slice_index (values places) k) ≡ get_or (keys_of es) k nobody)
    entry_is k l =
        let e = get_or es k (nobody, 0) in
        let f = found_is e.0 e.1 (btree_map_get_place names_total places k e.0 e.1 ordered (there es k l)) in
        rw (value_at es k l, key_at es k l) f
      where
        there : (xs : List (Name × ℕ)) (i : ℕ) → i < length xs → slice_get xs i ≡ Some ((get_or xs i (nobody, 0)).0, (get_or xs i (nobody, 0)).1)
        there [] i l = absurd (omega arith)
        there (x ∷ xs) zero l = refl
        there (x ∷ xs) (suc i) l = there xs i (omega arith)

        value_at : (xs : List (Name × ℕ)) (i : ℕ) → i < length xs → slice_index (values_of xs) i ≡ (get_or xs i (nobody, 0)).1
        value_at [] i l = absurd (omega arith)
        value_at (x ∷ xs) zero l = refl
        value_at (x ∷ xs) (suc i) l = value_at xs i (omega arith)

        key_at : (xs : List (Name × ℕ)) (i : ℕ) → i < length xs → get_or (keys_of xs) i nobody ≡ (get_or xs i (nobody, 0)).0
        key_at [] i l = absurd (omega arith)
        key_at (x ∷ xs) zero l = refl
        key_at (x ∷ xs) (suc i) l = key_at xs i (omega arith)

    count_is : length (values places) ≡ length es
    count_is = length-values_of es

    below_at : (i j : ℕ) → i < j → j < length (values places) → IsBelow models (slice_index (values places) i) (slice_index (values places) j)
    below_at i j l m =
        let c = count_is in
        let a = entry_is i (omega arith) in
        let b = entry_is j (omega arith) in
        rw (a.1, b.1) (Less-from_sorted name_cmp (keys_of es) i j nobody ordered l (omega (arith, length-keys_of es)))

    all_there : (at : ℕ) → at < length models → has (values places) at ≡ true
    all_there at l =
        let p = place_from_lookup (λ k. is_eq (name_cmp (name_at models at) k)) es at (found_at at l) in
        seen es p.0 p.1 p.2
      where
        seen : (xs : List (Name × ℕ)) (i : ℕ) (k : Name) → slice_get xs i ≡ Some (k, at) → has (values_of xs) at ≡ true
        seen [] i k e = absurd cc
        seen (x ∷ xs) zero k e = let same : x ≡ (k, at) = cc in ap (λ (y : Name × ℕ). eqb at y.1 || has (values_of xs) at) same ∙ ap (λ b. b || has (values_of xs) at) (eq-eqb at at refl)
        seen (x ∷ xs) (suc i) k e = later (eqb at x.1) (has (values_of xs) at) (seen xs i k e)
          where
            later : (a b : Bool) → b ≡ true → (a || b) ≡ true
            later true b h = refl
            later false b h = h

    apart_at : (i j d : ℕ) → i < j → j < length (values places) → eqb (get_or (values places) i d) (get_or (values places) j d) ≡ false
    apart_at i j d l m =
        let u = get_or_default (values places) i d 0 (omega arith) in
        let v = get_or_default (values places) j d 0 m in
        rw (u, v) (unlike (eqb (slice_index (values places) i) (slice_index (values places) j)) refl)
      where
        unlike : (b : Bool) → b ≡ eqb (slice_index (values places) i) (slice_index (values places) j) → eqb (slice_index (values places) i) (slice_index (values places) j) ≡ false
        unlike false e = sym e
        unlike true e =
            let same : slice_index (values places) i ≡ slice_index (values places) j = eqb-true _ _ (sym e) in
            let below = below_at i j l m in
            let tie = tied_itself names_total (name_at models (slice_index (values places) j)) in
            let less : name_cmp (name_at models (slice_index (values places) j)) (name_at models (slice_index (values places) j)) ≡ Less = subst (λ k. IsBelow models k (slice_index (values places) j)) same below in
            absurd cc

    pub are_by_name : AreByName models (values places)
    are_by_name = record {
      within = All-from_get_or (λ at. at < length models) (values places) 0 (λ i l. (entry_is i (let c = count_is in omega arith)).0);
      all = all_there;
      ascending = λ i j d l m.
          let u = get_or_default (values places) i d 0 (omega arith) in
          let v = get_or_default (values places) j d 0 m in
          rw (u, v) (below_at i j l m);
      few = length-le_from_distinct_below (values places) (length models) (IsDistinct-from_apart eqb (values places) apart_at)
          (λ q h. let p = place_of (values places) q h in
          let w = (entry_is p.0 (let c = count_is in let l = p.1 in omega arith)).0 in
          let e : slice_index (values places) p.0 ≡ q = p.2 in
          omega arith);
    }

-- one name more
pub found_more : (h : Name → Option ℕ) (names : List Name) (i : ℕ) (name : Name) → i < length names → name ≡ get_or names i name → (made new : List ℕ)
    → made ≡ filter_map h (take i names) → new ≡ made ++ option_to_list (h name) → new ≡ filter_map h (take (i + 1) names)
found_more h names i name l here made new was is =
    is ∙ ap (λ m. m ++ option_to_list (h name)) was ∙ ap (λ m. filter_map h (take i names) ++ m) (one (h name)) ∙ sym (filter_map-append h (take i names) (name ∷ []))
    ∙ ap (filter_map h) (sym (take_more names i name l ∙ ap (λ m. take i names ++ m ∷ []) (sym here)))
  where
    one : (o : Option ℕ) → option_to_list o ≡ cons_option o []
    one None = refl
    one (Some at) = refl
