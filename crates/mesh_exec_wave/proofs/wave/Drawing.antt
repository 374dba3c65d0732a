-- What one more number that was drawn changes.
use Rattle.std.proofs.Common.{◌≡◌, ◌<◌, ◌≤◌, ◌+◌, ℕ, suc, cond, List, [], ◌∷◌, ◌++◌, length, refl, sym, ap, ap₂, ◌∙◌, subst, arith}
use Rattle.std.specs.Prelude.{slice_get, Some}
use Rattle.std.specs.Option.{option_map, option_to_list}
use Rattle.std.specs.declared.option.Option.{Option}
use Rattle.std.proofs.lemmas.Grind.{flat_map-append}
use Rattle.std.proofs.lemmas.Option.{slice_get_past}
use Rattle.std.proofs.lemmas.Bool.{lt-ltb, le-ltb}
use Rattle.std.proofs.lemmas.List.{append-nil, length-append}
use Rattle.std.specs.declared.result.Result.{Result}
use Rattle.std.specs.declared.result.Result.TheVariants.{Ok, Err}
use Rattle.std.specs.Result.{IfOk}
use Rattle.mesh_list.specs.declared.memory.Memory.{Memory}
use Rattle.mesh_base_values.specs.declared.values.Cell.{Cell}
use Rattle.mesh_exec_wave.specs.claims.Claims.{weigh}
use Rattle.mesh_exec_wave.proofs.claims.Steps.{weigh-append}
use Rattle.mesh_exec_wave.specs.wave.Workers.{IsDone, IsPast, IsSoFar, part, part_at, parts_of, reach}
use Rattle.mesh_exec_wave.specs.declared.wave.parts.Part.{Part}

abbrev Made : Type 0
Made = Result (List Part) Memory

abbrev Rows : Type 0
Rows = List (List Cell)

pub weigh-one : (h : ℕ → ℕ) (drawn : List ℕ) (i : ℕ) → weigh h (drawn ++ i ∷ []) ≡ weigh h drawn + h i
unfolding weigh
weigh-one h drawn i = let e = weigh-append h drawn (i ∷ []) in omega (arith, e)

pub weigh-none : (h : ℕ → ℕ) → weigh h [] ≡ 0
unfolding weigh
weigh-none h = refl

reach-below : (n i : ℕ) → i < n → reach n i ≡ 1
reach-below n i lt = ap (λ b. cond b 1 (suc n)) (lt-ltb i n lt)

reach-past : (n i : ℕ) → n ≤ i → reach n i ≡ suc n
reach-past n i le = ap (λ b. cond b 1 (suc n)) (le-ltb i n le)

-- one more number below n, and one that isn't
pub more_below : (n k i : ℕ) (drawn : List ℕ) → weigh (reach n) drawn ≡ k → i < n → weigh (reach n) (drawn ++ i ∷ []) ≡ k + 1
more_below n k i drawn e lt = let a = weigh-one (reach n) drawn i in let b = reach-below n i lt in omega (arith, a, b, e)

pub past_end : (n i : ℕ) (drawn : List ℕ) → n ≤ i → IsPast n (drawn ++ i ∷ [])
past_end n i drawn le = let a = weigh-one (reach n) drawn i in let b = reach-past n i le in omega (arith, a, b)

pub parts_more : (wanted : List Rows) (drawn : List ℕ) (i : ℕ) (rows : Rows) → slice_get wanted i ≡ Some rows → parts_of wanted (drawn ++ i ∷ []) ≡ parts_of wanted drawn ++ part i rows ∷ []
parts_more wanted drawn i rows e =
    flat_map-append (part_at wanted) drawn (i ∷ []) ∙ ap (λ (o : Option Rows). parts_of wanted drawn ++ (option_to_list (option_map (part i) o) ++ [])) e

pub parts_same : (wanted : List Rows) (drawn : List ℕ) (i : ℕ) → length wanted ≤ i → parts_of wanted (drawn ++ i ∷ []) ≡ parts_of wanted drawn
parts_same wanted drawn i le =
    flat_map-append (part_at wanted) drawn (i ∷ [])
    ∙ ap (λ (o : Option Rows). parts_of wanted drawn ++ (option_to_list (option_map (part i) o) ++ [])) (slice_get_past wanted i le)
    ∙ append-nil (parts_of wanted drawn)

-- the same with what was made of them
pub started : (wanted : List Rows) (drawn : List ℕ) (made : List Part) → drawn ≡ [] → made ≡ [] → IsSoFar wanted 0 drawn (Ok made)
started wanted drawn made no_number no_part = (
  ap length no_number,
  ap (weigh (reach (length wanted))) no_number ∙ weigh-none (reach (length wanted)),
  no_part ∙ ap (parts_of wanted) (sym no_number),
)

if_same : (made : Made) (a b : List Part) → a ≡ b → IfOk made (λ parts. parts ≡ a) → IfOk made (λ parts. parts ≡ b)
if_same made a b e = subst (λ (l : List Part). IfOk made (λ parts. parts ≡ l)) e

pub one_more : (wanted : List Rows) (k : ℕ) (drawn more : List ℕ) (before after : Made) (i : ℕ) → IsSoFar wanted k drawn before → i < length wanted → more ≡ drawn ++ i ∷ []
    → IfOk after (λ parts. (xs : List Part) × (rows : Rows) × (before ≡ Ok xs) × (slice_get wanted i ≡ Some rows) × (parts ≡ xs ++ part i rows ∷ [])) → IsSoFar wanted (k + 1) more after
one_more wanted k drawn more before after i so_far lt is added = subst (λ (ns : List ℕ). IsSoFar wanted (k + 1) ns after) (sym is) (
  (let e = length-append drawn (i ∷ []) in omega (arith, e, so_far.0)),
  more_below (length wanted) k i drawn so_far.1 lt,
  grown after added,
)
  where
    grown : (made : Made) → IfOk made (λ parts. (xs : List Part) × (rows : Rows) × (before ≡ Ok xs) × (slice_get wanted i ≡ Some rows) × (parts ≡ xs ++ part i rows ∷ [])) → IfOk made (λ parts. parts ≡ parts_of wanted (drawn ++ i ∷ []))
    grown (Ok made) (xs, rows, was, at, now) =
        let e : xs ≡ parts_of wanted drawn = subst (λ (r : Made). IfOk r (λ parts. parts ≡ parts_of wanted drawn)) was so_far.2 in
        now ∙ ap (λ (l : List Part). l ++ part i rows ∷ []) e ∙ sym (parts_more wanted drawn i rows at)
    grown (Err e) added = tt

pub ended : (wanted : List Rows) (k most : ℕ) (drawn more : List ℕ) (made : Made) (i : ℕ) → IsSoFar wanted k drawn made → k < most → length wanted ≤ i → more ≡ drawn ++ i ∷ [] → IsDone wanted most more made
ended wanted k most drawn more made i so_far lt le is = subst (λ (ns : List ℕ). IsDone wanted most ns made) (sym is) (
  (let e = length-append drawn (i ∷ []) in omega (arith, e, so_far.0)),
  past_end (length wanted) i drawn le,
  if_same made _ _ (sym (parts_same wanted drawn i le)) so_far.2,
)

pub ran_out : (wanted : List Rows) (k most : ℕ) (drawn more : List ℕ) (made : Made) → IsSoFar wanted k drawn made → k ≤ most → length wanted < k → more ≡ drawn → IsDone wanted most more made
ran_out wanted k most drawn more made so_far le lt is = subst (λ (ns : List ℕ). IsDone wanted most ns made) (sym is) (
  (let e = so_far.0 in omega (arith, e)),
  (let e = so_far.1 in omega (arith, e)),
  so_far.2,
)

apart : (left right made : Made) (a b : List Part) → IfOk left (λ parts. parts ≡ a) → IfOk right (λ parts. parts ≡ b)
    → IfOk made (λ parts. (first : List Part) × (second : List Part) × (left ≡ Ok first) × (right ≡ Ok second) × (parts ≡ first ++ second)) → IfOk made (λ parts. parts ≡ a ++ b)
apart left right (Ok made) a b is_a is_b (first, second, was_a, was_b, now) =
    let e : first ≡ a = subst (λ (r : Made). IfOk r (λ parts. parts ≡ a)) was_a is_a in
    let f : second ≡ b = subst (λ (r : Made). IfOk r (λ parts. parts ≡ b)) was_b is_b in
    now ∙ ap₂ (λ (l m : List Part). l ++ m) e f
apart left right (Err e) a b is_a is_b joined = tt

-- what two have done is done together
pub both_done : (wanted : List Rows) (m n most : ℕ) (xs ys drawn : List ℕ) (left right made : Made) → IsDone wanted m xs left → IsDone wanted n ys right → m + n ≡ most → drawn ≡ xs ++ ys
    → IfOk made (λ parts. (first : List Part) × (second : List Part) × (left ≡ Ok first) × (right ≡ Ok second) × (parts ≡ first ++ second)) → IsDone wanted most drawn made
both_done wanted m n most xs ys drawn left right made a b sum is joined = subst (λ (ns : List ℕ). IsDone wanted most ns made) (sym is) (
  (let e = length-append xs ys in omega (arith, e, a.0, b.0, sum)),
  (let e = weigh-append (reach (length wanted)) xs ys in omega (arith, e, a.1)),
  if_same made _ _ (sym (flat_map-append (part_at wanted) xs ys)) (apart left right made _ _ a.2 b.2 joined),
)
