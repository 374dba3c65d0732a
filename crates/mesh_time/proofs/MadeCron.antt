use Rattle.std.proofs.Common.{◌≡◌, ℕ, zero, suc, ◌+◌, ◌*◌, ◌/◌, ◌%◌, ◌-◌, ◌^◌, ◌<◌, ◌≤◌, Bool, true, false, not, ◌&&◌, ◌||◌, ◌==◌, nat_le, nat_lt, refl, sym, ap, ◌∙◌, subst, arith, cond, inl, inr, List, [], ◌∷◌, IsTrue, Ok, Err}
use native.Mathlib.Nat.{mod-eq_of_lt}
use Rattle.std.specs.List.{before_first, list_all, list_any}
use Rattle.std.proofs.lemmas.Bool.{and_from, and_parts, cases_Bool, cases_eq, eq-eqb, eqb-true, eqb-false, le-leb, leb-true, lt-leb, lt-ltb, ltb-false, or_cases, and_right as and_never, or_right}
use Rattle.std.proofs.lemmas.Nat.{div-mul-add}
use Rattle.std.proofs.Math.Nat.{pow-le-pow_right}
use Rattle.std.proofs.lemmas.Nat.{pow-add, div-add-mod', mod_below}
use Rattle.mesh_base_values.specs.declared.crons.CronFault.TheVariants.{TooFine, NoTick}
use Rattle.mesh_base_values.specs.Crons.{CronSets, count_below, has, has_date, is_cron, is_set, some_below}
use Rattle.mesh_time.specs.CronText.{checked, field_has, front, high_end, is_field, is_item, is_number, is_range, is_star, is_stepped, item_first, item_has, item_last, item_step, items, low_end, number, set_of, sets_of, stands_in, week_has}
use Rattle.mesh_time.proofs.FieldLaws.{items_head, step_positive}
use Rattle.mesh_time.proofs.CronFacts.{some_is}
use Rattle.mesh_time.proofs.SetLaws.{set_bound, some_from}

abbrev pub made_of : ℕ → ℕ → ℕ → ℕ → ℕ → Bool → Bool → CronSets
made_of a b d m w dom_star dow_star = record { minute = a; hour = b; dom = d; month = m; dow = w; dom_star = dom_star; dow_star = dow_star }

range_bounds : (low high : ℕ) (text : List ℕ) → is_range low high text ≡ true → (low ≤ number (low_end text)) × (number (low_end text) ≤ number (high_end text)) × (number (high_end text) ≤ high)
unfolding is_range
range_bounds low high text h =
    let a = and_parts (is_number (low_end text)) _ h in
    let b = and_parts (is_number (high_end text)) _ a.1 in
    let c = and_parts (nat_le low (number (low_end text))) _ b.1 in
    let d = and_parts (nat_le (number (low_end text)) (number (high_end text))) (nat_le (number (high_end text)) high) c.1 in
    (leb-true _ _ c.0, leb-true _ _ d.0, leb-true _ _ d.1)

stepped_range : (low high : ℕ) (text : List ℕ) → is_stepped low high text ≡ true → is_star text ≡ false → is_range low high text ≡ true
unfolding is_stepped
stepped_range low high text h none =
    elim (or_cases (is_star text) (stands_in 45 text && is_range low high text) h) [
      | inl star ↦ absurd (cc)
      | inr rest ↦ (and_parts (stands_in 45 text) (is_range low high text) rest).1
    ]

item_range_by : (slash : Bool) (low high : ℕ) (text : List ℕ) (rest : Bool) → (cond slash (is_stepped low high text && rest) (is_range low high text)) ≡ true → is_star text ≡ false → is_range low high text ≡ true
item_range_by true low high text rest h none = stepped_range low high text (and_parts (is_stepped low high text) rest h).0 none
item_range_by false low high text rest h none = h

item_bounds : (low high : ℕ) (item : List ℕ) → is_item low high item ≡ true → low ≤ high → (low ≤ item_first low item) × (item_first low item ≤ item_last high item) × (item_last high item ≤ high)
unfolding is_item item_first item_last
item_bounds low high item h le =
    elim (cases_Bool (is_star (front item))) [
      | inl star ↦
          let first : cond (is_star (front item)) low (number (low_end (front item))) ≡ low = ap (λ t. cond t low (number (low_end (front item)))) star in
          let last : cond (is_star (front item)) high (number (high_end (front item))) ≡ high = ap (λ t. cond t high (number (high_end (front item)))) star in
          (omega arith, omega arith, omega arith)
      | inr none ↦
          let first : cond (is_star (front item)) low (number (low_end (front item))) ≡ number (low_end (front item)) = ap (λ t. cond t low (number (low_end (front item)))) none in
          let last : cond (is_star (front item)) high (number (high_end (front item))) ≡ number (high_end (front item)) = ap (λ t. cond t high (number (high_end (front item)))) none in
          let b = range_bounds low high (front item) (item_range_by (stands_in 47 item) low high (front item) _ h none) in
          (omega arith, omega arith, omega arith)
    ]

first_matches : (low high : ℕ) (item : List ℕ) → is_item low high item ≡ true → low ≤ high → item_has low high (item_first low item) item ≡ true
unfolding item_has
first_matches low high item h le =
    let b = item_bounds low high item h le in
    let positive = step_positive low high item h in
    let zero_left : (item_first low item - item_first low item) % item_step item ≡ 0 = ap (λ k. k % item_step item) (omega arith) ∙ mod-eq_of_lt positive in
    and_from _ _ h (and_from _ _ (le-leb _ _ (omega arith)) (and_from _ _ (le-leb _ _ b.1) (eq-eqb _ _ zero_left)))

pub field_some : (low high n : ℕ) (text : List ℕ) → is_field low high text ≡ true → low ≤ high → high < n → some_below (field_has low high text) n ≡ true
unfolding is_field field_has
field_some low high n text h le lt =
    elim (or_cases (is_star text) (list_all (is_item low high) (items text)) h) [
      | inl star ↦
          some_from (field_has low high text) n low (omega arith)
          (ap (λ t. t || list_any (item_has low high low) (items text)) (and_from _ _ star (and_from _ _ (le-leb low low (omega arith)) (le-leb low high le))))
      | inr rest ↦
          let head = items_head text _ _ refl refl in
          let item : List ℕ = before_first (λ b. b == 44) text in
          let each : list_all (is_item low high) (item ∷ head.0) ≡ true = subst (λ xs. list_all (is_item low high) xs ≡ true) head.1 rest in
          let fits = (and_parts (is_item low high item) (list_all (is_item low high) head.0) each).0 in
          let b = item_bounds low high item fits le in
          let here : list_any (item_has low high (item_first low item)) (items text) ≡ true =
          ap (list_any (item_has low high (item_first low item))) head.1 ∙ ap (λ t. t || list_any (item_has low high (item_first low item)) head.0) (first_matches low high item fits le) in
          some_from (field_has low high text) n (item_first low item) (omega arith)
          (or_right (is_star text && (nat_le low (item_first low item) && nat_le (item_first low item) high)) _ here)
    ]

any_never : (p : List ℕ → Bool) (xs : List (List ℕ)) → ((x : List ℕ) → p x ≡ false) → list_any p xs ≡ false
any_never p [] h = refl
any_never p (x ∷ xs) h = ap (λ t. t || list_any p xs) (h x) ∙ any_never p xs h

item_not_zero : (high : ℕ) → 1 ≤ high → (item : List ℕ) → item_has 1 high 0 item ≡ false
unfolding item_has
item_not_zero high le item =
    elim (cases_Bool (is_item 1 high item)) [
      | inl fits ↦
          let b = item_bounds 1 high item fits le in
          and_never (is_item 1 high item) _ (ap (λ t. t && (nat_le 0 (item_last high item) && ((0 - item_first 1 item) % item_step item == 0))) (lt-leb (item_first 1 item) 0 (omega arith)))
      | inr none ↦ ap (λ t. t && (nat_le (item_first 1 item) 0 && (nat_le 0 (item_last high item) && ((0 - item_first 1 item) % item_step item == 0)))) none
    ]

field_not_zero : (high : ℕ) (text : List ℕ) → 1 ≤ high → field_has 1 high text 0 ≡ false
unfolding field_has
field_not_zero high text le =
    ap (λ t. t || list_any (item_has 1 high 0) (items text)) (and_never (is_star text) (nat_le 1 0 && nat_le 0 high) refl) ∙ any_never (item_has 1 high 0) (items text) (item_not_zero high le)

split_sum : (q w y r : ℕ) → q * w + r + w * (2 * y) ≡ (q + 2 * y) * w + r
split_sum q w y r = omega arith

power_parts : (k j n : ℕ) → n ≡ k + (1 + j) → 2 ^ n ≡ 2 ^ k * (2 * 2 ^ j)
power_parts k j n e = ap (λ m. 2 ^ m) e ∙ pow-add 2 k (1 + j) ∙ ap (λ m. 2 ^ k * m) (pow-add 2 1 j)

high_digit : (s n k : ℕ) → k < n → (s + 2 ^ n) / 2 ^ k % 2 ≡ s / 2 ^ k % 2
high_digit s n k h =
    let j : ℕ = n - k - 1 in
    let power = power_parts k j n (omega arith) in
    let one : 1 ≤ 2 = omega arith in
    let from : 0 ≤ k = omega arith in
    let positive : 0 < 2 ^ k = pow-le-pow_right one from in
    let parts = div-add-mod' s (2 ^ k) in
    let sum : s + 2 ^ n ≡ (s / 2 ^ k + 2 * 2 ^ j) * 2 ^ k + s % 2 ^ k =
    ap (λ m. m + 2 ^ n) (sym parts) ∙ ap (λ m. s / 2 ^ k * 2 ^ k + s % 2 ^ k + m) power ∙ split_sum (s / 2 ^ k) (2 ^ k) (2 ^ j) (s % 2 ^ k) in
    let quotient : (s + 2 ^ n) / 2 ^ k ≡ s / 2 ^ k + 2 * 2 ^ j =
    ap (λ m. m / 2 ^ k) sum ∙ div-mul-add (s / 2 ^ k + 2 * 2 ^ j) (2 ^ k) (s % 2 ^ k) (mod_below s (2 ^ k) positive) in
    ap (λ m. m % 2) quotient ∙ omega arith

digit_step : (there : Bool) (s n k : ℕ) → s < 2 ^ n → k < n → has (s + cond there (2 ^ n) 0) k ≡ has s k
unfolding has
digit_step true s n k h lt = ap (λ m. m == 1) (high_digit s n k lt)
digit_step false s n k h lt = ap (λ m. m / 2 ^ k % 2 == 1) (omega arith)

last_digit : (there : Bool) (s n : ℕ) → s < 2 ^ n → has (s + cond there (2 ^ n) 0) n ≡ there
unfolding has
last_digit true s n h =
    let one : (s + 2 ^ n) / 2 ^ n ≡ 1 = ap (λ m. m / 2 ^ n) (omega arith) ∙ div-mul-add 1 (2 ^ n) s h in
    ap (λ m. m % 2 == 1) one
last_digit false s n h =
    let none : (s + 0) / 2 ^ n ≡ 0 = ap (λ m. m / 2 ^ n) (omega arith) ∙ div-mul-add 0 (2 ^ n) s h in
    ap (λ m. m % 2 == 1) none

pub has_set : (p : ℕ → Bool) (n k : ℕ) → k < n → has (set_of p n) k ≡ p k
unfolding set_of
has_set p zero k h = absurd (omega arith)
has_set p (suc n) k h =
    elim (cases_eq k n) [
      | inl e ↦ subst (λ m. has (set_of p n + cond (p n) (2 ^ n) 0) m ≡ p m) (sym e) (last_digit (p n) (set_of p n) n (set_bound p n))
      | inr ne ↦ digit_step (p n) (set_of p n) n k (set_bound p n) (omega arith) ∙ has_set p n k (omega arith)
    ]

same_some : (p q : ℕ → Bool) (n : ℕ) → ((k : ℕ) → k < n → q k ≡ p k) → some_below p n ≡ true → some_below q n ≡ true
same_some p q n same h =
    let k = some_is p n h in
    some_from q n k.0 k.1 (same k.0 k.1 ∙ k.2)

counted_by : (here below : Bool) (m : ℕ) → (here || below) ≡ true → (below ≡ true → 1 ≤ m) → 1 ≤ m + cond here 1 0
counted_by true below m h f = omega arith
counted_by false below m h f = let one = f h in omega arith

counted : (p : ℕ → Bool) (n : ℕ) → some_below p n ≡ true → 1 ≤ count_below p n
unfolding some_below count_below
counted p zero h = absurd (cc)
counted p (suc n) h = counted_by (p n) (some_below p n) (count_below p n) h (counted p n)

set_is : (low n : ℕ) (p : ℕ → Bool) → some_below p n ≡ true → set_of p n % 2 ^ low ≡ 0 → is_set low n (set_of p n) ≡ true
unfolding is_set
set_is low n p some zero_low =
    and_from _ _ (lt-ltb _ _ (set_bound p n)) (and_from _ _ (eq-eqb _ _ zero_low) (same_some p (has (set_of p n)) n (has_set p n) some))

even_set : (p : ℕ → Bool) (n : ℕ) → 0 < n → p 0 ≡ false → set_of p n % 2 ^ 1 ≡ 0
unfolding has
even_set p n h none =
    let digit : (set_of p n / 2 ^ 0 % 2 == 1) ≡ false = has_set p n 0 h ∙ none in
    let odd = eqb-false (set_of p n / 2 ^ 0 % 2) 1 digit in
    omega arith

star_is : (text : List ℕ) → is_star text ≡ true → text ≡ 42 ∷ []
star_is [] h = absurd (cc)
star_is (x ∷ []) h = ap (λ y. y ∷ []) (eqb-true x 42 (and_parts (x == 42) true h).0)
star_is (x ∷ y ∷ ys) h = absurd (let wrong = (and_parts (x == 42) false h).1 in cc)

whole_month : (text : List ℕ) → is_star text ≡ true → set_of (field_has 1 31 text) 32 ≡ 0xffff_fffe
unfolding set_of field_has item_has is_item is_range is_number
whole_month text h = subst (λ t. set_of (field_has 1 31 t) 32 ≡ 0xffff_fffe) (sym (star_is text h)) refl

whole_week : (text : List ℕ) → is_star text ≡ true → set_of (week_has text) 7 ≡ 0x7f
unfolding set_of week_has field_has item_has is_item is_range is_number
whole_week text h = subst (λ t. set_of (week_has t) 7 ≡ 0x7f) (sym (star_is text h)) refl

week_some : (text : List ℕ) → is_field 0 7 text ≡ true → some_below (week_has text) 7 ≡ true
unfolding week_has
week_some text h =
    let k = some_is (field_has 0 7 text) 8 (field_some 0 7 8 text h (omega arith) (omega arith)) in
    elim (cases_eq k.0 7) [
      | inl e ↦ some_from (week_has text) 7 0 (omega arith) (or_right (field_has 0 7 text 0) _ (and_from (0 == 0) _ refl (subst (λ m. field_has 0 7 text m ≡ true) e k.2)))
      | inr ne ↦ some_from (week_has text) 7 k.0 (omega arith) (ap (λ t. t || ((k.0 == 0) && field_has 0 7 text 7)) k.2)
    ]

implied : (a b : Bool) → (a ≡ true → b ≡ true) → (not a || b) ≡ true
implied true b h = h refl
implied false b h = refl

never_not : (a b : Bool) → (a && not b) ≡ false → (not a || b) ≡ true
never_not true true h = refl
never_not true false h = absurd (cc)
never_not false b h = refl

pub cron_made : (minute hour dom month dow : List ℕ) → is_field 0 59 minute ≡ true → is_field 0 23 hour ≡ true → is_field 1 31 dom ≡ true → is_field 1 12 month ≡ true → is_field 0 7 dow ≡ true
    → nat_lt 1 (count_below (has (set_of (field_has 0 59 minute) 60)) 60) ≡ false
    → (is_star dow && not (has_date (set_of (field_has 1 12 month) 13) (set_of (field_has 1 31 dom) 32))) ≡ false
    → IsTrue (is_cron (sets_of minute hour dom month dow))
unfolding is_cron
cron_made minute hour dom month dow fm fh fd fo fw few comes =
    let minutes = field_some 0 59 60 minute fm (omega arith) (omega arith) in
    let hours = field_some 0 23 24 hour fh (omega arith) (omega arith) in
    let days = field_some 1 31 32 dom fd (omega arith) (omega arith) in
    let months = field_some 1 12 13 month fo (omega arith) (omega arith) in
    let one = counted _ 60 (same_some (field_has 0 59 minute) (has (set_of (field_has 0 59 minute) 60)) 60 (has_set (field_has 0 59 minute) 60) minutes) in
    let most = ltb-false _ _ few in
    and_from _ _ (set_is 0 60 (field_has 0 59 minute) minutes (omega arith))
    (and_from _ _ (eq-eqb _ _ (omega arith))
    (and_from _ _ (set_is 0 24 (field_has 0 23 hour) hours (omega arith))
    (and_from _ _ (set_is 1 32 (field_has 1 31 dom) days (even_set (field_has 1 31 dom) 32 (omega arith) (field_not_zero 31 dom (omega arith))))
    (and_from _ _ (set_is 1 13 (field_has 1 12 month) months (even_set (field_has 1 12 month) 13 (omega arith) (field_not_zero 12 month (omega arith))))
    (and_from _ _ (set_is 0 7 (week_has dow) (week_some dow fw) (omega arith))
    (and_from _ _ (implied (is_star dom) _ (λ star. eq-eqb _ _ (whole_month dom star)))
    (and_from _ _ (implied (is_star dow) _ (λ star. eq-eqb _ _ (whole_week dow star)))
    (never_not (is_star dow) _ comes))))))))

pub sets_made : (minute hour dom month dow : List ℕ) (a b d m w : ℕ) (dom_star dow_star : Bool) → a ≡ set_of (field_has 0 59 minute) 60 → b ≡ set_of (field_has 0 23 hour) 24 → d ≡ set_of (field_has 1 31 dom) 32 → m ≡ set_of (field_has 1 12 month) 13 → w ≡ set_of (week_has dow) 7 → dom_star ≡ is_star dom → dow_star ≡ is_star dow
    → made_of a b d m w dom_star dow_star ≡ sets_of minute hour dom month dow
sets_made minute hour dom month dow a b d m w dom_star dow_star ea eb ed em ew es et =
    ap (λ k. made_of k b d m w dom_star dow_star) ea
    ∙ ap (λ k. made_of (set_of (field_has 0 59 minute) 60) k d m w dom_star dow_star) eb
    ∙ ap (λ k. made_of (set_of (field_has 0 59 minute) 60) (set_of (field_has 0 23 hour) 24) k m w dom_star dow_star) ed
    ∙ ap (λ k. made_of (set_of (field_has 0 59 minute) 60) (set_of (field_has 0 23 hour) 24) (set_of (field_has 1 31 dom) 32) k w dom_star dow_star) em
    ∙ ap (λ k. made_of (set_of (field_has 0 59 minute) 60) (set_of (field_has 0 23 hour) 24) (set_of (field_has 1 31 dom) 32) (set_of (field_has 1 12 month) 13) k dom_star dow_star) ew
    ∙ ap (λ k. made_of (set_of (field_has 0 59 minute) 60) (set_of (field_has 0 23 hour) 24) (set_of (field_has 1 31 dom) 32) (set_of (field_has 1 12 month) 13) (set_of (week_has dow) 7) k dow_star) es
    ∙ ap (λ k. made_of (set_of (field_has 0 59 minute) 60) (set_of (field_has 0 23 hour) 24) (set_of (field_has 1 31 dom) 32) (set_of (field_has 1 12 month) 13) (set_of (week_has dow) 7) (is_star dom) k) et

pub too_fine : (c : CronSets) → nat_lt 1 (count_below (has c.minute) 60) ≡ true → checked c ≡ Err TooFine
unfolding checked
too_fine c h = ap (λ t. cond t (Err TooFine) (cond (c.dow_star && not (has_date c.month c.dom)) (Err NoTick) (Ok c))) h

pub no_tick : (c : CronSets) → nat_lt 1 (count_below (has c.minute) 60) ≡ false → (c.dow_star && not (has_date c.month c.dom)) ≡ true → checked c ≡ Err NoTick
unfolding checked
no_tick c h k = ap (λ t. cond t (Err TooFine) (cond (c.dow_star && not (has_date c.month c.dom)) (Err NoTick) (Ok c))) h ∙ ap (λ t. cond t (Err NoTick) (Ok c)) k

pub all_well : (c : CronSets) → nat_lt 1 (count_below (has c.minute) 60) ≡ false → (c.dow_star && not (has_date c.month c.dom)) ≡ false → checked c ≡ Ok c
unfolding checked
all_well c h k = ap (λ t. cond t (Err TooFine) (cond (c.dow_star && not (has_date c.month c.dom)) (Err NoTick) (Ok c))) h ∙ ap (λ t. cond t (Err NoTick) (Ok c)) k

pub matching_is : (minute : List ℕ) (set matching : ℕ) → set ≡ set_of (field_has 0 59 minute) 60 → matching ≡ count_below (has set) 60 → matching ≡ count_below (has (set_of (field_has 0 59 minute) 60)) 60
matching_is minute set matching e f = f ∙ ap (λ k. count_below (has k) 60) e

pub never_is : (dom month dow : List ℕ) (star never : Bool) (days months : ℕ) → star ≡ is_star dow → months ≡ set_of (field_has 1 12 month) 13 → days ≡ set_of (field_has 1 31 dom) 32 → never ≡ (star && not (has_date months days))
    → never ≡ (is_star dow && not (has_date (set_of (field_has 1 12 month) 13) (set_of (field_has 1 31 dom) 32)))
never_is dom month dow star never days months s m d e =
    e ∙ ap (λ t. t && not (has_date months days)) s ∙ ap (λ k. is_star dow && not (has_date k days)) m
    ∙ ap (λ k. is_star dow && not (has_date (set_of (field_has 1 12 month) 13) k)) d
