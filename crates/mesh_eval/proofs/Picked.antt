-- Rows at places.
use Rattle.std.proofs.Common.{◌≡◌, ℕ, zero, suc, ◌+◌, ◌<◌, Bool, true, false, cond, not, List, [], ◌∷◌, ◌++◌, map, length, take, get_or, refl, sym, ap, ap₂, ◌∙◌, arith}
use Rattle.std.specs.List.{filter, flat_map, list_any, range_with_len}
use Rattle.std.proofs.lemmas.List.{append-nil, take_more}
use Rattle.mesh_base_values.specs.declared.values.Cell.{Cell}
use Rattle.mesh_spec_query.specs.Aggregates.{distinct}
use Rattle.mesh_base_values.specs.declared.times.Bounds.{Bounds}
use Rattle.mesh_base_values.specs.declared.values.Column.{Column}
use Rattle.mesh_base.specs.declared.expressions.Expr.{Expr}
use Rattle.mesh_spec_query.specs.Sel.{Group, Joined, same_row, key_list, group_of}
use Rattle.mesh_eval_rows.specs.joins.index.Places.{places, places_from}
use Rattle.mesh_eval_rows.proofs.joins.index.OneOfEach.{distinct-more, same_row-exact}

turn : (k at : ℕ) → k + suc at ≡ suc k + at
turn k at = omega arith

turn_1 : (k at : ℕ) → k + (at + 1) ≡ suc k + at
turn_1 k at = omega arith

none : (at : ℕ) → at ≡ 0 + at
none at = omega arith

-- what stands at the places of what passes is what passes
pub picked-places : {A B : Type 0} (f : A → B) (test : B → Bool) (d : A) (xs all : List A) (at : ℕ) → ((k : ℕ) → get_or all (k + at) d ≡ get_or xs k d)
    → map (λ p. get_or all p d) (places_from test at (map f xs)) ≡ filter (λ x. test (f x)) xs
picked-places f test d [] all at here = refl
picked-places {A} f test d (x ∷ xs) all at here = by (test (f x)) (picked-places f test d xs all (suc at) (λ k. ap (λ n. get_or all n d) (turn k at) ∙ here (suc k)))
  where
    by : (b : Bool) → map (λ p. get_or all p d) (places_from test (suc at) (map f xs)) ≡ filter (λ x. test (f x)) xs
        → map (λ p. get_or all p d) (cond b (at ∷ places_from test (suc at) (map f xs)) (places_from test (suc at) (map f xs))) ≡ cond b (x ∷ filter (λ x. test (f x)) xs) (filter (λ x. test (f x)) xs)
    by true h = ap₂ (λ y l. y ∷ l) (ap (λ n. get_or all n d) (none at) ∙ here 0) h
    by false h = h

-- what stands at all places is all
pub picked-all : {A : Type 0} (d : A) (xs all : List A) (at : ℕ) → ((k : ℕ) → get_or all (k + at) d ≡ get_or xs k d)
    → map (λ p. get_or all p d) (range_with_len at (length xs)) ≡ xs
picked-all d [] all at here = refl
picked-all d (x ∷ xs) all at here = ap₂ (λ y l. y ∷ l) (ap (λ n. get_or all n d) (none at) ∙ here 0) (picked-all d xs all (at + 1) (λ k. ap (λ n. get_or all n d) (turn_1 k at) ∙ here (suc k)))

-- one group more
pub groups-more : {A B C : Type 0} (f : A → B) (rows : B → List C) (xs : List A) (x : A) → flat_map rows (map f (xs ++ x ∷ [])) ≡ flat_map rows (map f xs) ++ rows (f x)
groups-more f rows [] x = append-nil (rows (f x))
groups-more f rows (y ∷ xs) x = ap (λ l. rows (f y) ++ l) (groups-more f rows xs x) ∙ sym (assoc (rows (f y)) (flat_map rows (map f xs)) (rows (f x)))
  where
    assoc : {C : Type 0} (a b c : List C) → (a ++ b) ++ c ≡ a ++ (b ++ c)
    assoc [] b c = refl
    assoc (z ∷ a) b c = ap (λ l. z ∷ l) (assoc a b c)

-- one key more
pub distinct-take : (keys : List (List Cell)) (at : ℕ) (key : List Cell) → at < length keys → key ≡ get_or keys at []
    → distinct same_row (take (at + 1) keys) ≡ cond (list_any (same_row key) (take at keys)) (distinct same_row (take at keys)) (distinct same_row (take at keys) ++ key ∷ [])
distinct-take keys at key lt e =
    ap (distinct same_row) (take_more keys at [] lt ∙ ap (λ k. take at keys ++ k ∷ []) (sym e))
    ∙ distinct-more same_row same_row-exact (take at keys) key

-- one more place
pub range-more : (a n : ℕ) → range_with_len a (suc n) ≡ range_with_len a n ++ (a + n) ∷ []
range-more a zero = ap (λ x. x ∷ []) (plus_0 a)
  where
    plus_0 : (a : ℕ) → a ≡ a + 0
    plus_0 a = omega arith
range-more a (suc n) = ap (λ l. a ∷ l) (range-more (a + 1) n ∙ ap (λ k. range_with_len (a + 1) n ++ k ∷ []) (later a n))
  where
    later : (a n : ℕ) → a + 1 + n ≡ a + suc n
    later a n = omega arith

pub plus_0 : (k : ℕ) → k + 0 ≡ k
plus_0 k = omega arith

-- a key that stands nowhere before has a group of its own
pub group-added : (out : Group → List (List Cell)) (of_key : List Cell → Group) (keys all : List (List Cell)) (at : ℕ) (key : List Cell) (made : List (List Cell))
    → all ≡ keys → at < length keys → key ≡ get_or keys at []
    → not (list_any (same_row (get_or all at [])) (take at all)) ≡ true
    → made ≡ flat_map out (map of_key (distinct same_row (take at keys)))
    → made ++ out (of_key key) ≡ flat_map out (map of_key (distinct same_row (take (at + 1) keys)))
group-added out of_key keys all at key made f lt here first h =
    let none_before : list_any (same_row key) (take at keys) ≡ false =
    turned (list_any (same_row key) (take at keys)) (ap₂ (λ l r. not (list_any (same_row r) (take at l))) (sym f) (here ∙ ap (λ l. get_or l at []) (sym f)) ∙ first) in
    ap (λ m. m ++ out (of_key key)) h
    ∙ sym (groups-more of_key out (distinct same_row (take at keys)) key)
    ∙ ap (λ l. flat_map out (map of_key l))
    (sym (distinct-take keys at key lt here ∙ ap (λ (b : Bool). cond b (distinct same_row (take at keys)) (distinct same_row (take at keys) ++ key ∷ [])) none_before))
  where
    turned : (b : Bool) → not b ≡ true → b ≡ false
    turned true e = absurd (cc)
    turned false e = refl

-- a key that stands before has no group of its own
pub group-passed : (out : Group → List (List Cell)) (of_key : List Cell → Group) (keys all : List (List Cell)) (at : ℕ) (made : List (List Cell))
    → all ≡ keys → at < length keys
    → not (list_any (same_row (get_or all at [])) (take at all)) ≡ false
    → made ≡ flat_map out (map of_key (distinct same_row (take at keys)))
    → made ≡ flat_map out (map of_key (distinct same_row (take (at + 1) keys)))
group-passed out of_key keys all at made f lt first h =
    let before : list_any (same_row (get_or keys at [])) (take at keys) ≡ true =
    turned (list_any (same_row (get_or keys at [])) (take at keys)) (ap (λ l. not (list_any (same_row (get_or l at [])) (take at l))) (sym f) ∙ first) in
    h ∙ ap (λ l. flat_map out (map of_key l))
    (sym (distinct-take keys at (get_or keys at []) lt refl ∙ ap (λ (b : Bool). cond b (distinct same_row (take at keys)) (distinct same_row (take at keys) ++ get_or keys at [] ∷ [])) before))
  where
    turned : (b : Bool) → not b ≡ false → b ≡ true
    turned true e = refl
    turned false e = absurd (cc)

-- the groups of keys are those of the rows whose keys they are
pub groups-by_key : (out : Group → List (List Cell)) (u : Bounds) (cols : List (List Column)) (exprs own : List Expr) (rows : List Joined) (keys all : List (List Cell))
    → all ≡ keys → keys ≡ map (key_list u cols own) rows → own ≡ exprs
    → flat_map out (map (λ key. record { key_values = key; rows = map (λ p. get_or rows p []) (places (same_row key) all) }) (distinct same_row keys))
    ≡ flat_map out (map (group_of u cols exprs rows) (distinct same_row (map (key_list u cols exprs) rows)))
groups-by_key out u cols exprs own rows keys all f e g =
    let f_of : Joined → List Cell = key_list u cols exprs in
    let are : keys ≡ map f_of rows = e ∙ ap (λ k. map (key_list u cols k) rows) g in
    let of_key : List (List Cell) → List Cell → Group = λ l key. record { key_values = key; rows = map (λ p. get_or rows p []) (places (same_row key) l) } in
    let here : (key : List Cell) → of_key (map f_of rows) key ≡ group_of u cols exprs rows key =
    λ key. ap (λ (r : List Joined). record { key_values = key; rows = r }) (picked-places f_of (same_row key) [] rows rows 0 (λ n. ap (λ m. get_or rows m []) (plus_0 n))) in
    ap₂ (λ l k. flat_map out (map (of_key l) (distinct same_row k))) (f ∙ are) are
    ∙ (λ i. flat_map out (map (λ key. here key i) (distinct same_row (map f_of rows))))
