use Rattle.std.proofs.Common.{◌≡◌, ℕ, suc, ◌+◌, ◌*◌, ◌-◌, ◌%◌, ◌<◌, ◌≤◌, Bool, true, false, ◌&&◌, ◌||◌, ◌==◌, refl, sym, ap, ◌∙◌, arith, List, [], ◌∷◌, length, drop, get_or, min, add-one, drop-cons, nat_le, nat_lt, not, if◌then◌else◌, inl, inr}
use native.Mathlib.Nat.{mod-eq_of_lt}
use Rattle.std.proofs.Math.ListN.{length-drop}
use Rattle.std.proofs.lemmas.Bool.{and_parts, cases_eq, cases_lt, le-leb, lt-leb, ltb-true}
use Rattle.std.proofs.lemmas.List.{length-take, take_all}
use Rattle.std.proofs.lemmas.List.Folds.{length-prefix_len}
use Rattle.std.proofs.lemmas.List.Splits.{slice_split_first}
use Rattle.std.specs.List.{after_first, before_first, list_all, list_any, position_or_len}
use Rattle.mesh_time.specs.CronText.{is_item, item_first, item_has, item_last, item_step, items, number_after, number, stands_in, step_text}

-- digits that follow numbers alike up to 1000 spell numbers alike up to 1000
alike : (xs : List ℕ) (v w : ℕ) → min 1000 v ≡ min 1000 w → min 1000 (number_after v xs) ≡ min 1000 (number_after w xs)
alike [] v w h = h
alike (x ∷ xs) v w h = alike xs (10 * v + (x - 48)) (10 * w + (x - 48)) (omega arith)

pub number_step : (text : List ℕ) (i value next : ℕ) → i < length text → next ≡ min 1000 (10 * value + (get_or text i 0 - 48)) → min 1000 (number_after value (drop i text)) ≡ min 1000 (number_after next (drop (i + 1) text))
number_step text i value next h e =
    ap (λ xs. min 1000 (number_after value xs)) (drop-cons text i 0 h) ∙ alike (drop (suc i) text) (10 * value + (get_or text i 0 - 48)) next (omega arith) ∙ ap (λ k. min 1000 (number_after next (drop k text))) (sym (add-one i))

one_item_by : (x : ℕ) (xs : List ℕ) (here : Bool) → (x == 44) ≡ here → (position_or_len (λ b. b == 44) xs ≡ length xs → items xs ≡ xs ∷ []) → position_or_len (λ b. b == 44) (x ∷ xs) ≡ length (x ∷ xs) → items (x ∷ xs) ≡ (x ∷ xs) ∷ []
one_item_by x xs true e rest h =
    let at : 0 ≡ suc (length xs) = rw e at h in
    absurd (omega arith)
one_item_by x xs false e rest h =
    let at : 1 + position_or_len (λ b. b == 44) xs ≡ suc (length xs) = rw e at h in
    rw (e, rest (omega arith)) refl

-- a whole list is one item where no comma stands in it
one_item : (xs : List ℕ) → position_or_len (λ b. b == 44) xs ≡ length xs → items xs ≡ xs ∷ []
one_item [] h = refl
one_item (x ∷ xs) h = one_item_by x xs (x == 44) refl (one_item xs) h

pub last_item : (xs item : List ℕ) → item ≡ before_first (λ b. b == 44) xs → length item ≡ length xs → items xs ≡ item ∷ []
last_item xs item e h =
    let place = ap length e ∙ length-prefix_len (λ b. not (b == 44)) xs in
    one_item xs (omega arith) ∙ ap (λ y. y ∷ []) (sym (e ∙ take_all _ xs (omega arith)))

pub first_item : (xs item more : List ℕ) → item ≡ before_first (λ b. b == 44) xs → more ≡ after_first (λ b. b == 44) xs → (length item ≡ length xs → ⊥) → (items xs ≡ item ∷ items more) × (length more < length xs)
first_item xs item more e f h =
    let place = ap length e ∙ length-prefix_len (λ b. not (b == 44)) xs in
    let short = length-take (position_or_len (λ b. b == 44) xs) xs in
    let left = ap length f ∙ length-drop (position_or_len (λ b. b == 44) xs + 1) xs in
    let taken = ap length e in
    let lt : position_or_len (λ b. b == 44) xs < length xs = omega arith in
    (slice_split_first (λ b. b == 44) xs 0 lt ∙ ap (λ y. y ∷ items (after_first (λ b. b == 44) xs)) (sym e) ∙ ap (λ y. item ∷ items y) (sym f), omega arith)

step_positive_by : (stepped a b range : Bool) (n : ℕ) → (if stepped then a && (b && nat_lt 0 n) else range) ≡ true → 1 ≤ (if stepped then n else 1)
step_positive_by true a b range n h = ltb-true 0 n (and_parts b _ (and_parts a _ h).1).1
step_positive_by false a b range n h = omega arith

pub step_positive : (low high : ℕ) (item : List ℕ) → is_item low high item ≡ true → 1 ≤ item_step item
unfolding is_item item_step
step_positive low high item h = step_positive_by (stands_in 47 item) _ _ _ (number (step_text item)) h

pub capped_step : (n step : ℕ) → n < 1000 → n % min 1000 step ≡ n % step
capped_step n step h =
    elim (cases_lt 1000 step) [
      | inl lt ↦ let capped : min 1000 step ≡ 1000 = omega arith in ap (λ k. n % k) capped ∙ mod-eq_of_lt h ∙ sym (mod-eq_of_lt (omega arith))
      | inr le ↦ let same : min 1000 step ≡ step = omega arith in ap (λ k. n % k) same
    ]

same_le : (a b c d : ℕ) → (a ≤ b → c ≤ d) → (c ≤ d → a ≤ b) → nat_le a b ≡ nat_le c d
same_le a b c d to from =
    elim (cases_lt b a) [
      | inl lt ↦ lt-leb a b lt ∙ sym (lt-leb c d (elim (cases_lt d c) [ inl gt ↦ gt | inr le ↦ let back = from le in absurd (omega arith) ]))
      | inr le ↦ le-leb a b le ∙ sym (le-leb c d (to le))
    ]

pub item_has_is : (low high value first last step : ℕ) (item : List ℕ) → is_item low high item ≡ true → first ≡ min 1000 (item_first low item) → last ≡ min 1000 (item_last high item) → step ≡ min 1000 (item_step item) → value < 1000
    → (nat_le first value && (nat_le value last && ((value - first) % step == 0))) ≡ item_has low high value item
unfolding item_has
item_has_is low high value first last step item is f l s h =
    let P : ℕ → Bool → ℕ → Bool = λ a b r. nat_le a value && (b && (r == 0)) in
    let up : nat_le value last ≡ nat_le value (item_last high item) = same_le _ _ _ _ (λ k. omega arith) (λ k. omega arith) in
    elim (cases_lt value (item_first low item)) [
      | inl lt ↦
          let out1 = lt-leb first value (omega arith) in
          let out2 = lt-leb (item_first low item) value lt in
          rw (is, out1, out2) refl
      | inr ge ↦
          let same : first ≡ item_first low item = omega arith in
          let rest : (value - first) % step ≡ (value - item_first low item) % item_step item =
          ap (λ k. (value - first) % k) s ∙ capped_step (value - first) (item_step item) (omega arith) ∙ ap (λ k. (value - k) % item_step item) same in
          ap (λ a. P a (nat_le value last) ((value - first) % step)) same
          ∙ ap (λ b. P (item_first low item) b ((value - first) % step)) up
          ∙ ap (λ r. P (item_first low item) (nat_le value (item_last high item)) r) rest
          ∙ ap (λ t. t && P (item_first low item) (nat_le value (item_last high item)) ((value - item_first low item) % item_step item)) (sym is)
    ]

pub items_head : (xs item more : List ℕ) → item ≡ before_first (λ b. b == 44) xs → more ≡ after_first (λ b. b == 44) xs → (tail : List (List ℕ)) × (items xs ≡ item ∷ tail)
items_head xs item more e f =
    elim (cases_eq (length item) (length xs)) [
      | inl whole ↦ ([], last_item xs item e whole)
      | inr part ↦ (items more, (first_item xs item more e f part).0)
    ]

pub all_fails : (p : List ℕ → Bool) (xs item more : List ℕ) → item ≡ before_first (λ b. b == 44) xs → more ≡ after_first (λ b. b == 44) xs → p item ≡ false → list_all p (items xs) ≡ false
all_fails p xs item more e f h =
    let head = items_head xs item more e f in
    ap (list_all p) head.1 ∙ ap (λ t. t && list_all p head.0) h

pub all_last : (p : List ℕ → Bool) (xs item : List ℕ) → item ≡ before_first (λ b. b == 44) xs → length item ≡ length xs → p item ≡ true → list_all p (items xs) ≡ true
all_last p xs item e whole h = ap (list_all p) (last_item xs item e whole) ∙ ap (λ t. t && true) h

pub all_more : (p : List ℕ → Bool) (xs item more : List ℕ) → item ≡ before_first (λ b. b == 44) xs → more ≡ after_first (λ b. b == 44) xs → (length item ≡ length xs → ⊥) → p item ≡ true → list_all p (items xs) ≡ list_all p (items more)
all_more p xs item more e f part h = ap (list_all p) (first_item xs item more e f part).0 ∙ ap (λ t. t && list_all p (items more)) h

pub any_here : (p : List ℕ → Bool) (xs item more : List ℕ) → item ≡ before_first (λ b. b == 44) xs → more ≡ after_first (λ b. b == 44) xs → p item ≡ true → list_any p (items xs) ≡ true
any_here p xs item more e f h =
    let head = items_head xs item more e f in
    ap (list_any p) head.1 ∙ ap (λ t. t || list_any p head.0) h

pub any_last : (p : List ℕ → Bool) (xs item : List ℕ) → item ≡ before_first (λ b. b == 44) xs → length item ≡ length xs → p item ≡ false → list_any p (items xs) ≡ false
any_last p xs item e whole h = ap (list_any p) (last_item xs item e whole) ∙ ap (λ t. t || false) h

pub any_more : (p : List ℕ → Bool) (xs item more : List ℕ) → item ≡ before_first (λ b. b == 44) xs → more ≡ after_first (λ b. b == 44) xs → (length item ≡ length xs → ⊥) → p item ≡ false → list_any p (items xs) ≡ list_any p (items more)
any_more p xs item more e f part h = ap (list_any p) (first_item xs item more e f part).0 ∙ ap (λ t. t || list_any p (items more)) h
