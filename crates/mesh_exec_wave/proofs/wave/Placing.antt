-- Where each number was drawn, each place is filled with the rows that are wanted there.
use Rattle.std.proofs.Common.{◌≡◌, ◌<◌, ◌≤◌, ◌≢◌, ◌%◌, ◌^◌, ℕ, zero, suc, Bool, true, false, cond, List, [], ◌∷◌, ◌++◌, map, set, length, get_or, replicate, refl, sym, ap, ◌∙◌, subst, arith, ⊎_elim}
use Rattle.std.specs.Prelude.{nat_eq, slice_get, Some, None}
use Rattle.std.specs.List.{All, flat_map}
use Rattle.std.specs.Option.{option_map, option_to_list}
use Rattle.std.specs.declared.option.Option.{Option}
use Rattle.std.proofs.lemmas.Bool.{lt-ltb}
use Rattle.std.proofs.lemmas.Bool.Decides.{eqb_tells}
use Rattle.std.proofs.lemmas.List.{ext_get_or, get_or-set_same, get_or-set_other, get_or-map, length-map, length-replicate, length-set}
use Rattle.std.proofs.lemmas.List.Elements.{All-cons}
use Rattle.std.proofs.lemmas.Option.{slice_get_within, slice_get-get_or}
use Rattle.std.specs.declared.result.Result.{Result}
use Rattle.std.specs.declared.result.Result.TheVariants.{Ok, Err}
use Rattle.std.specs.Result.{IfOk}
use Rattle.mesh_list.specs.declared.memory.Memory.{Memory}
use Rattle.mesh_base_values.specs.declared.values.Cell.{Cell}
use Rattle.mesh_base_values.proofs.Tests.{by_lt}
use Rattle.mesh_exec_wave.specs.claims.Claims.{AreAll, below, one_if, times, weigh}
use Rattle.mesh_exec_wave.proofs.claims.Once.{once}
use Rattle.mesh_exec_wave.specs.wave.Workers.{IsPast, part, parts_of, placed, reach}
use Rattle.mesh_exec_wave.specs.declared.wave.parts.Part.{Part}

abbrev Rows : Type 0
Rows = List (List Cell)

-- what numbers that go past n say of how many were drawn
counted : (xs : List ℕ) → weigh (λ x. 1) xs ≡ length xs
unfolding weigh
counted [] = refl
counted (x ∷ xs) = let e = counted xs in omega (arith, e)

as_many : (k : ℕ) → below (λ x. 1) k ≡ k
unfolding below
as_many zero = refl
as_many (suc k) = let e = as_many k in omega (arith, e)

each_one : (n k : ℕ) → k ≤ 2 ^ 64 → k ≤ n → below (reach n) k ≡ k
unfolding below
each_one n zero few le = refl
each_one n (suc k) few le =
    let e = each_one n k (omega arith) (omega arith) in
    let here : k % 2 ^ 64 ≡ k = omega arith in
    let o : reach n (k % 2 ^ 64) ≡ 1 = ap (λ b. cond b 1 (suc n)) (lt-ltb (k % 2 ^ 64) n (omega (arith, here))) in
    omega (arith, e, o)

one_here : (n x : ℕ) → x ≡ n → one_if n x ≡ 1
one_here n x is = ⊎_elim (λ (t : (nat_eq x n ≡ true) × (x ≡ n)). ap (λ (b : Bool). cond b 1 0) t.0) (λ (t : (nat_eq x n ≡ false) × (x ≢ n)). absurd (t.1 is)) (eqb_tells x n)

none_here : (n x : ℕ) → x ≢ n → one_if n x ≡ 0
none_here n x apart = ⊎_elim (λ (t : (nat_eq x n ≡ true) × (x ≡ n)). absurd (apart t.1)) (λ (t : (nat_eq x n ≡ false) × (x ≢ n)). ap (λ (b : Bool). cond b 1 0) t.0) (eqb_tells x n)

some_below : (n k : ℕ) → k ≤ 2 ^ 64 → n < k → 0 < below (one_if n) k
unfolding below
some_below n zero few lt = absurd (omega arith)
some_below n (suc k) few lt = ⊎_elim
    (λ (t : (nat_eq k n ≡ true) × (k ≡ n)).
    let here : k % 2 ^ 64 ≡ k = omega arith in
    let o = one_here n (k % 2 ^ 64) (here ∙ t.1) in
    omega (arith, o))
    (λ (t : (nat_eq k n ≡ false) × (k ≢ n)).
    let less : n < k = omega (arith, t.1) in
    let e = some_below n k (omega arith) less in
    omega (arith, e))
    (eqb_tells k n)

size : (word : ℕ) (drawn : List ℕ) (all : AreAll word drawn) → length drawn ≡ all.0
size word drawn all = sym (counted drawn) ∙ all.2 (λ x. 1) ∙ as_many all.0

reached : (word : ℕ) (drawn : List ℕ) (n : ℕ) → AreAll word drawn → length drawn < 2 ^ 64 → IsPast n drawn → 0 < times n drawn
reached word drawn n all few past =
    let s = size word drawn all in
    by_lt n all.0
    (λ lt. let e : times n drawn ≡ below (one_if n) all.0 = all.2 (one_if n) in let p = some_below n all.0 (omega (arith, s)) lt in omega (arith, e, p))
    (λ le. let e : weigh (reach n) drawn ≡ below (reach n) all.0 = all.2 (reach n) in let p = each_one n all.0 (omega (arith, s)) le in absurd (omega (arith, e, p, past)))

-- each number below n was drawn
pub each_drawn : (word : ℕ) (drawn : List ℕ) (n : ℕ) → AreAll word drawn → length drawn < 2 ^ 64 → IsPast n drawn → (i : ℕ) → i < n → 0 < times i drawn
each_drawn word drawn n all few past i lt = let e = once word drawn n n all few (reached word drawn n all few past) (omega arith) i lt in omega (arith, e)

module _ (wanted : List Rows) where
  abbrev Slots : Type 0
  Slots = List (Option Rows)

  abbrev after : Slots → ℕ → Option Rows → Slots
  after slots j None = slots
  after slots j (Some rows) = set slots j (Some rows)

  step : (slots : Slots) (j : ℕ) (js : List ℕ) → placed slots (parts_of wanted (j ∷ js)) ≡ placed (after slots j (slice_get wanted j)) (parts_of wanted js)
  step slots j js = go (slice_get wanted j)
    where
      go : (o : Option Rows) → placed slots (option_to_list (option_map (part j) o) ++ parts_of wanted js) ≡ placed (after slots j o) (parts_of wanted js)
      go None = refl
      go (Some rows) = refl

  after_length : (slots : Slots) (j : ℕ) (o : Option Rows) → length (after slots j o) ≡ length slots
  after_length slots j None = refl
  after_length slots j (Some rows) = length-set slots j (Some rows)

  placed_length : (slots : Slots) (js : List ℕ) → length (placed slots (parts_of wanted js)) ≡ length slots
  placed_length slots [] = refl
  placed_length slots (j ∷ js) = ap length (step slots j js) ∙ placed_length (after slots j (slice_get wanted j)) js ∙ after_length slots j (slice_get wanted j)

  abbrev Right : Slots → ℕ → Type 0
  Right slots i = get_or slots i None ≡ Some (get_or wanted i [])

  right_here : (slots : Slots) (j : ℕ) → length slots ≡ length wanted → j < length wanted → Right (after slots j (slice_get wanted j)) j
  right_here slots j len lt =
      subst (λ (o : Option Rows). Right (after slots j o) j) (sym (slice_get-get_or wanted j [] lt)) (get_or-set_same slots j (Some (get_or wanted j [])) None (omega (arith, len)))

  right_other : (slots : Slots) (i j : ℕ) (o : Option Rows) → i ≢ j → get_or (after slots j o) i None ≡ get_or slots i None
  right_other slots i j None apart = refl
  right_other slots i j (Some rows) apart = get_or-set_other slots j i (Some rows) None apart

  stays : (js : List ℕ) (slots : Slots) (i : ℕ) → length slots ≡ length wanted → i < length wanted → Right slots i → Right (placed slots (parts_of wanted js)) i
  stays [] slots i len lt right = right
  stays (j ∷ js) slots i len lt right =
      subst (λ (s : Slots). Right s i) (sym (step slots j js)) (stays js (after slots j (slice_get wanted j)) i (after_length slots j (slice_get wanted j) ∙ len) lt (⊎_elim
      (λ (t : (nat_eq i j ≡ true) × (i ≡ j)). subst (λ (k : ℕ). Right (after slots j (slice_get wanted j)) k) (sym t.1) (right_here slots j len (omega (arith, t.1))))
      (λ (t : (nat_eq i j ≡ false) × (i ≢ j)). right_other slots i j (slice_get wanted j) t.1 ∙ right)
      (eqb_tells i j)))

  filled_at : (js : List ℕ) (slots : Slots) (i : ℕ) → length slots ≡ length wanted → i < length wanted → 0 < times i js → Right (placed slots (parts_of wanted js)) i
  unfolding weigh
  filled_at [] slots i len lt some = absurd (omega arith)
  filled_at (j ∷ js) slots i len lt some =
      let more : Slots = after slots j (slice_get wanted j) in
      let more_len : length more ≡ length wanted = after_length slots j (slice_get wanted j) ∙ len in
      subst (λ (s : Slots). Right s i) (sym (step slots j js)) (⊎_elim
      (λ (t : (nat_eq i j ≡ true) × (i ≡ j)). stays js more i more_len lt (subst (λ (k : ℕ). Right more k) (sym t.1) (right_here slots j len (omega (arith, t.1)))))
      (λ (t : (nat_eq i j ≡ false) × (i ≢ j)). filled_at js more i more_len lt (let e = none_here i j (λ is. t.1 (sym is)) in omega (arith, e)))
      (eqb_tells i j))

  filled : (drawn : List ℕ) → ((i : ℕ) → i < length wanted → 0 < times i drawn) → placed (replicate (length wanted) None) (parts_of wanted drawn) ≡ map Some wanted
  filled drawn each =
      let slots : Slots = replicate (length wanted) None in
      let len : length slots ≡ length wanted = length-replicate (length wanted) None in
      let whole : length (placed slots (parts_of wanted drawn)) ≡ length wanted = placed_length slots drawn ∙ len in
      ext_get_or None _ _ (whole ∙ sym (length-map wanted Some)) (λ i lt.
      filled_at drawn slots i len (omega (arith, whole)) (each i (omega (arith, whole))) ∙ sym (get_or-map Some wanted i [] None (omega (arith, whole))))

  pub all_there : (drawn : List ℕ) → ((i : ℕ) → i < length wanted → 0 < times i drawn) → flat_map option_to_list (placed (replicate (length wanted) None) (parts_of wanted drawn)) ≡ wanted
  all_there drawn each = ap (flat_map option_to_list) (filled drawn each) ∙ each_some wanted
    where
      each_some : (xs : List Rows) → flat_map option_to_list (map Some xs) ≡ xs
      each_some [] = refl
      each_some (x ∷ xs) = ap (λ (l : List Rows). x ∷ l) (each_some xs)

  -- only numbers that name rows have a part
  pub within : (drawn : List ℕ) → All (λ p. p.number < length wanted) (parts_of wanted drawn)
  within [] = λ k d lt. absurd (omega arith)
  within (j ∷ js) = go (slice_get wanted j) refl (within js)
    where
      go : (o : Option Rows) → slice_get wanted j ≡ o → All (λ (p : Part). p.number < length wanted) (parts_of wanted js) → All (λ (p : Part). p.number < length wanted) (option_to_list (option_map (part j) o) ++ parts_of wanted js)
      go None at rest = rest
      go (Some rows) at rest = All-cons (λ (p : Part). p.number < length wanted) (part j rows) (parts_of wanted js) (slice_get_within wanted j rows at) rest

-- what is known of the parts of the numbers that were drawn is known of what was made
pub if_parts : (wanted : List Rows) (drawn : List ℕ) (P : List Part → Type 0) (made : Result (List Part) Memory) → IfOk made (λ parts. parts ≡ parts_of wanted drawn) → P (parts_of wanted drawn) → IfOk made P
if_parts wanted drawn P (Ok parts) is known = subst P (sym is) known
if_parts wanted drawn P (Err e) is known = tt
