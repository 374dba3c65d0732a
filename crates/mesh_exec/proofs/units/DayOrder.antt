-- The texts of days are in the order of the days.
use Rattle.std.proofs.Common.{◌≡◌, ℕ, zero, suc, ◌+◌, ◌/◌, ◌%◌, ◌<◌, ◌≤◌, Bool, true, false, cond, List, [], ◌∷◌, ◌++◌, ℤ, pos, ◌+ℤ◌, ◌≤ℤ◌, unsigned_abs, sym, ap, ◌∙◌, subst, arith}
use Rattle.std.specs.Cmp.{nat_cmp_is}
use Rattle.std.specs.Cmp.Lexicographic.{slice_cmp}
use Rattle.std.specs.Ordering.{is_gt, nat_cmp, ordering_then}
use Rattle.std.specs.declared.cmp.Ordering.{Ordering}
use Rattle.std.specs.declared.cmp.Ordering.TheVariants.{Less, Equal}
use Rattle.std.proofs.lemmas.Cmp.{nat_cmp_total, tied_itself}
use Rattle.std.proofs.lemmas.Int.{ints}
use Rattle.std.specs.Prelude.{nat_lt}
use Rattle.jiff_core.specs.Calendar.{days_in_month}
use Rattle.jiff_core.proofs.SignedLemmas.{signed_arith, unsigned_abs-parts, one_part}
use Rattle.mesh_base_values.specs.NameOrder.{texts_total}
use Rattle.mesh_base_values.proofs.Tests.{by_lt}
use Rattle.mesh_time_days.specs.Moments.{IsDayNumber, two_digits}
use Rattle.mesh_time_days.specs.casts.Dates.{Civil, civil_text, day_after, day_form, day_text, is_day_number, next_day}

abbrev text_order : List ℕ → List ℕ → Ordering
text_order = slice_cmp nat_cmp

less : (m n : ℕ) → m < n → nat_cmp m n ≡ Less
less m n lt = sym (nat_cmp_is m n Less lt)

level : (m n : ℕ) → m ≡ n → nat_cmp m n ≡ Equal
level m n e = sym (nat_cmp_is m n Equal e)

-- two digits are in the order of their numbers
two_less : (m n : ℕ) (xs ys : List ℕ) → m < n → text_order (two_digits m ++ xs) (two_digits n ++ ys) ≡ Less
two_less m n xs ys lt =
    by_lt (m / 10) (n / 10)
    (λ tens. ap (λ o. ordering_then o (ordering_then (nat_cmp (48 + m % 10) (48 + n % 10)) (text_order xs ys))) (less (48 + m / 10) (48 + n / 10) (omega (arith, tens))))
    (λ tens.
    ap (λ o. ordering_then o (ordering_then (nat_cmp (48 + m % 10) (48 + n % 10)) (text_order xs ys))) (level (48 + m / 10) (48 + n / 10) (omega (arith, tens, lt)))
    ∙ ap (λ o. ordering_then o (text_order xs ys)) (less (48 + m % 10) (48 + n % 10) (omega (arith, tens, lt))))

one_same : (x : ℕ) (xs ys : List ℕ) → text_order (x ∷ xs) (x ∷ ys) ≡ text_order xs ys
one_same x xs ys = ap (λ o. ordering_then o (text_order xs ys)) (tied_itself nat_cmp_total x)

two_same : (m : ℕ) (xs ys : List ℕ) → text_order (two_digits m ++ xs) (two_digits m ++ ys) ≡ text_order xs ys
two_same m xs ys = one_same (48 + m / 10) ((48 + m % 10) ∷ xs) ((48 + m % 10) ∷ ys) ∙ one_same (48 + m % 10) xs ys

-- the texts of two days by their parts
form_year : (y z m n d e : ℕ) → y < z → text_order (day_form y m d) (day_form z n e) ≡ Less
form_year y z m n d e lt =
    let rest : ℕ → ℕ → List ℕ = λ a b. 45 ∷ (two_digits a ++ (45 ∷ two_digits b)) in
    by_lt (y / 100) (z / 100)
    (λ centuries. two_less (y / 100) (z / 100) (two_digits (y % 100) ++ rest m d) (two_digits (z % 100) ++ rest n e) centuries)
    (λ centuries.
    let same : y / 100 ≡ z / 100 = omega (arith, centuries, lt) in
    ap (λ k. text_order (two_digits k ++ (two_digits (y % 100) ++ rest m d)) (two_digits (z / 100) ++ (two_digits (z % 100) ++ rest n e))) same
    ∙ two_same (z / 100) (two_digits (y % 100) ++ rest m d) (two_digits (z % 100) ++ rest n e)
    ∙ two_less (y % 100) (z % 100) (rest m d) (rest n e) (omega (arith, same, lt)))

form_month : (y m n d e : ℕ) → m < n → text_order (day_form y m d) (day_form y n e) ≡ Less
form_month y m n d e lt =
    let rest : ℕ → ℕ → List ℕ = λ a b. 45 ∷ (two_digits a ++ (45 ∷ two_digits b)) in
    two_same (y / 100) (two_digits (y % 100) ++ rest m d) (two_digits (y % 100) ++ rest n e)
    ∙ two_same (y % 100) (rest m d) (rest n e)
    ∙ one_same 45 (two_digits m ++ (45 ∷ two_digits d)) (two_digits n ++ (45 ∷ two_digits e))
    ∙ two_less m n (45 ∷ two_digits d) (45 ∷ two_digits e) lt

form_day : (y m d e : ℕ) → d < e → text_order (day_form y m d) (day_form y m e) ≡ Less
form_day y m d e lt =
    let rest : ℕ → List ℕ = λ b. 45 ∷ (two_digits m ++ (45 ∷ two_digits b)) in
    two_same (y / 100) (two_digits (y % 100) ++ rest d) (two_digits (y % 100) ++ rest e)
    ∙ two_same (y % 100) (rest d) (rest e)
    ∙ one_same 45 (two_digits m ++ (45 ∷ two_digits d)) (two_digits m ++ (45 ∷ two_digits e))
    ∙ two_same m (45 ∷ two_digits d) (45 ∷ two_digits e)
    ∙ one_same 45 (two_digits d) (two_digits e)
    ∙ two_less d e [] [] lt

next_more : (c : Civil) → text_order (civil_text c) (civil_text (next_day c)) ≡ Less
next_more c = go (nat_lt c.day (days_in_month (pos c.year) c.month)) (nat_lt c.month 12)
  where
    go : (b e : Bool) → text_order (civil_text c) (civil_text (cond b (record { year = c.year; month = c.month; day = c.day + 1 }) (cond e (record { year = c.year; month = c.month + 1; day = 1 }) (record { year = c.year + 1; month = 1; day = 1 })))) ≡ Less
    go true e = form_day c.year c.month c.day (c.day + 1) (omega arith)
    go false true = form_month c.year c.month (c.month + 1) c.day 1 (omega arith)
    go false false = form_year c.year (c.year + 1) c.month 1 c.day 1 (omega arith)

rises : (m n : ℕ) → m < n → text_order (civil_text (day_after m)) (civil_text (day_after n)) ≡ Less
unfolding day_after
rises m zero lt = absurd (omega arith)
rises m (suc n) lt = by_lt m n
    (λ before. texts_total.trans (civil_text (day_after m)) (civil_text (day_after n)) (civil_text (next_day (day_after n))) (rises m n before) (next_more (day_after n)))
    (λ here. let same : n ≡ m = omega (arith, here, lt) in subst (λ k. text_order (civil_text (day_after k)) (civil_text (next_day (day_after n))) ≡ Less) same (next_more (day_after n)))

upto : (m n : ℕ) → m ≤ n → is_gt (text_order (civil_text (day_after m)) (civil_text (day_after n))) ≡ false
upto m n le = by_lt m n
    (λ before. ap is_gt (rises m n before))
    (λ here. let same : m ≡ n = omega (arith, here, le) in subst (λ k. is_gt (text_order (civil_text (day_after m)) (civil_text (day_after k))) ≡ false) same (ap is_gt (tied_itself texts_total (civil_text (day_after m)))))

pub tested : (day : ℤ) → IsDayNumber day → is_day_number day ≡ true
tested day within = grind (arith, ints)

text_of : (day : ℤ) → IsDayNumber day → day_text day ≡ civil_text (day_after (unsigned_abs (day +ℤ pos 719_162)))
text_of day within = ap (λ (b : Bool). cond b (civil_text (day_after (unsigned_abs (day +ℤ pos 719_162)))) []) (tested day within)

pub days_upto : (a b : ℤ) → IsDayNumber a → IsDayNumber b → a ≤ℤ b → is_gt (text_order (day_text a) (day_text b)) ≡ false
days_upto a b is_a is_b le =
    let pa = unsigned_abs-parts (a +ℤ pos 719_162) in
    let oa = one_part (a +ℤ pos 719_162) in
    let pb = unsigned_abs-parts (b +ℤ pos 719_162) in
    let ob = one_part (b +ℤ pos 719_162) in
    (λ i. is_gt (text_order (text_of a is_a i) (text_of b is_b i)))
    ∙ upto (unsigned_abs (a +ℤ pos 719_162)) (unsigned_abs (b +ℤ pos 719_162)) (omega (arith, signed_arith, pa, oa, pb, ob, is_a, is_b, le))
