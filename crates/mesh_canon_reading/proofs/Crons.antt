-- A cron that was written is read again.
use Rattle.std.proofs.Common.{◌≡◌, ◌≢◌, ℕ, zero, suc, ◌+◌, ◌*◌, ◌/◌, ◌%◌, ◌^◌, ◌<◌, ◌≤◌, Bool, true, false, cond, ◌||◌, not, ◌==◌, List, [], ◌∷◌, ◌++◌, length, Option, Some, None, refl, sym, ap, ◌∙◌, append_assoc, add-one, arith}
use Rattle.std.specs.Prelude.{codes, nat_lt}
use Rattle.std.specs.Fmt.{decimal}
use Rattle.std.proofs.Math.Nat.{pow-le-pow_right, pow-succ', zero-div}
use Rattle.std.proofs.lemmas.Bool.{and_parts, eqb-true, eqb-false, le-ltb, lt-ltb, ltb-true, ne_eqb}
use Rattle.std.proofs.lemmas.Fmt.{length-decimal-le}
use Rattle.std.proofs.lemmas.List.{append-nil, length-append}
use Rattle.mesh_base_values.specs.Crons.{CronSets, has, is_cron, is_set, is_single, some_below}
use Rattle.mesh_canon_text.specs.Text.{behind_commas, commas, cron_text, field_text, fields_text, places}
use Rattle.mesh_canon_words.specs.Words.{after, number_at, then_at}
use Rattle.mesh_canon_reading.specs.Reading.{cron_at, field_at, fields_at, fields_in, values_at}
use Rattle.mesh_canon_reading.proofs.Numbers.{Ends, begins, number_again, text_again}

-- the values of a set ascend, from low to most
abbrev Ascends : ℕ → ℕ → List ℕ → Type 0
Ascends low most [] = Unit {0}
Ascends low most (n ∷ ns) = (low ≤ n) × (n ≤ most) × Ascends (n + 1) most ns

from_lower : (low lower most : ℕ) (ns : List ℕ) → lower ≤ low → Ascends low most ns → Ascends lower most ns
from_lower low lower most [] le a = tt
from_lower low lower most (n ∷ ns) le a = (omega (arith, a.0), a.1, a.2)

places_ascend_by : (b : Bool) (n from most q : ℕ) → (Ascends (from + 1) most (places n (from + 1) (q / 2))) → from ≤ most → Ascends from most (cond b (from ∷ places n (from + 1) (q / 2)) (places n (from + 1) (q / 2)))
places_ascend_by true n from most q a le = (omega arith, le, a)
places_ascend_by false n from most q a le = from_lower (from + 1) from most (places n (from + 1) (q / 2)) (omega arith) a

places_ascend : (n from most q : ℕ) → from + n ≤ most + 1 → Ascends from most (places n from q)
unfolding places
places_ascend zero from most q le = tt
places_ascend (suc n) from most q le = places_ascend_by (q % 2 == 1) n from most q (places_ascend n (from + 1) most (q / 2) (omega arith)) (omega arith)

length_by : (b : Bool) (n from : ℕ) (ns : List ℕ) → length ns ≤ n → length (cond b (from ∷ ns) ns) ≤ suc n
length_by true n from ns le = omega arith
length_by false n from ns le = omega arith

places_length : (n from q : ℕ) → length (places n from q) ≤ n
unfolding places
places_length zero from q = omega arith
places_length (suc n) from q = length_by (q % 2 == 1) n from (places n (from + 1) (q / 2)) (places_length n (from + 1) (q / 2))

-- the set of these values
abbrev sum_of : List ℕ → ℕ
sum_of [] = 0
sum_of (n ∷ ns) = 2 ^ n + sum_of ns

halves : (q : ℕ) → q ≡ 2 * (q / 2) + q % 2
halves q = omega arith

sum_one : (w h q s : ℕ) → q ≡ 2 * h + 1 → s ≡ (2 * w) * h → w + s ≡ w * q
sum_one w h q s e f = rw (f, e) (omega arith)

sum_other : (w h q s : ℕ) → q ≡ 2 * h → s ≡ (2 * w) * h → s ≡ w * q
sum_other w h q s e f = rw (f, e) (omega arith)

next_power : (from : ℕ) → 2 ^ (from + 1) ≡ 2 * 2 ^ from
next_power from = ap (λ n. 2 ^ n) (add-one from) ∙ pow-succ' 2 from

sum_by : (b : Bool) (from q : ℕ) (ns : List ℕ) → q % 2 == 1 ≡ b → sum_of ns ≡ 2 ^ (from + 1) * (q / 2) → sum_of (cond b (from ∷ ns) ns) ≡ 2 ^ from * q
sum_by true from q ns t e =
    let one : q % 2 ≡ 1 = eqb-true (q % 2) 1 t in
    sum_one (2 ^ from) (q / 2) q (sum_of ns) (omega arith) (e ∙ ap (λ w. w * (q / 2)) (next_power from))
sum_by false from q ns t e =
    let other : (q % 2 ≡ 1 → ⊥) = eqb-false (q % 2) 1 t in
    let none : q % 2 ≡ 0 = omega arith in
    sum_other (2 ^ from) (q / 2) q (sum_of ns) (omega arith) (e ∙ ap (λ w. w * (q / 2)) (next_power from))

sum_places : (n from q : ℕ) → q < 2 ^ n → sum_of (places n from q) ≡ 2 ^ from * q
unfolding places
sum_places zero from q lt = let none : q ≡ 0 = omega arith in rw none (omega arith)
sum_places (suc n) from q lt =
    let power = pow-succ' 2 n in
    sum_by (q % 2 == 1) from q (places n (from + 1) (q / 2)) refl (sum_places n (from + 1) (q / 2) (omega arith))

-- where a set ends, no digit and no comma comes
record Stops (rest : List ℕ) : Type 0 where
  ends : Ends rest
  over : after (codes ",") rest ≡ None

value_last : (k most low set n : ℕ) (bytes rest : List ℕ) → number_at most bytes ≡ Some (n, rest) → low ≤ n → after (codes ",") rest ≡ None → values_at (suc k) most low set bytes ≡ Some (set + 2 ^ n, rest)
unfolding values_at
value_last k most low set n bytes rest e le over = rw (e, le-ltb n low le, over) refl

value_next : (k most low set n : ℕ) (bytes left : List ℕ) (found : Option (ℕ × List ℕ)) → number_at most bytes ≡ Some (n, 44 ∷ left) → low ≤ n → values_at k most (n + 1) (set + 2 ^ n) left ≡ found → values_at (suc k) most low set bytes ≡ found
unfolding values_at after
value_next k most low set n bytes left found e le more = rw (e, le-ltb n low le) more

values_again : (k most low set n : ℕ) (ns rest : List ℕ) → most < 60 → Ascends low most (n ∷ ns) → length ns < k → Stops rest → values_at k most low set (decimal n ++ (behind_commas ns ++ rest)) ≡ Some (set + sum_of (n ∷ ns), rest)
unfolding behind_commas
values_again zero most low set n ns rest small a lt stops = absurd (omega arith)
values_again (suc k) most low set n [] rest small a lt stops =
    value_last k most low set n (decimal n ++ rest) rest (number_again most n rest (omega (arith, a.1)) a.1 stops.ends) a.0 stops.over
    ∙ ap (λ s. Some (s, rest)) (omega arith)
values_again (suc k) most low set n (m ∷ ms) rest small a lt stops =
    let left : List ℕ = decimal m ++ (behind_commas ms ++ rest) in
    let e : (decimal m ++ behind_commas ms) ++ rest ≡ left = append_assoc (decimal m) (behind_commas ms) rest in
    let total : set + 2 ^ n + (2 ^ m + sum_of ms) ≡ set + (2 ^ n + (2 ^ m + sum_of ms)) = omega arith in
    ap (λ x. values_at (suc k) most low set (decimal n ++ (44 ∷ x))) e
    ∙ value_next k most low set n (decimal n ++ (44 ∷ left)) left (Some (set + 2 ^ n + sum_of (m ∷ ms), rest)) (number_again most n (44 ∷ left) (omega (arith, a.1)) a.1 refl) a.0
    (values_again k most (n + 1) (set + 2 ^ n) m ms rest small a.2 (omega arith) stops)
    ∙ ap (λ s. Some (s, rest)) total

none_has : (n : ℕ) → some_below (has 0) n ≡ false
unfolding some_below has
none_has zero = refl
none_has (suc n) = rw (zero-div (2 ^ n), none_has n) refl

listed_again : (most set : ℕ) (ns rest : List ℕ) → most < 60 → Ascends 0 most ns → length ns ≤ 60 → sum_of ns ≡ set → set ≢ 0 → Stops rest → values_at 60 most 0 0 (commas ns ++ rest) ≡ Some (set, rest)
unfolding commas
listed_again most set [] rest small a le is some stops = absurd (some (sym is))
listed_again most set (n ∷ ns) rest small a le is some stops =
    ap (values_at 60 most 0 0) (append_assoc (decimal n) (behind_commas ns) rest)
    ∙ values_again 60 most 0 0 n ns rest small a (omega arith) stops
    ∙ ap (λ s. Some (s, rest)) (omega (arith, is))

starts_digit : (most : ℕ) (b : ℕ) (bytes : List ℕ) → 48 ≤ b → after (codes "*") (b ∷ bytes) ≡ None
unfolding after
starts_digit most b bytes le = rw (ne_star b le) refl
  where
    ne_star : (b : ℕ) → 48 ≤ b → (42 == b) ≡ false
    ne_star b le = ne_eqb 42 b (λ e. omega arith)

-- a field of n values, each of which is at most `most`
record IsField (each n most set : ℕ) (star : Bool) : Type 0 where
  size : n ≤ 60
  bound : n ≡ most + 1
  fits : set < 2 ^ n
  some : set ≢ 0
  all : star ≡ true → set ≡ each

field_star : (each most : ℕ) (rest : List ℕ) → field_at each most (42 ∷ rest) ≡ Some ((each, true), rest)
unfolding field_at after
field_star each most rest = refl

field_list : (each most set : ℕ) (bytes rest : List ℕ) → after (codes "*") bytes ≡ None → values_at 60 most 0 0 bytes ≡ Some (set, rest) → field_at each most bytes ≡ Some ((set, false), rest)
unfolding field_at
field_list each most set bytes rest e f = rw (e, f) refl

no_star : (ns rest : List ℕ) (most : ℕ) → most < 60 → Ascends 0 most ns → sum_of ns ≢ 0 → after (codes "*") (commas ns ++ rest) ≡ None
unfolding commas after
no_star [] rest most small a some = absurd (some refl)
no_star (n ∷ ns) rest most small a some =
    let b = begins n (omega (arith, a.1)) in
    ap (λ x. after (codes "*") ((x ++ behind_commas ns) ++ rest)) b.2 ∙ starts_digit most b.0 ((b.1 ++ behind_commas ns) ++ rest) b.3

field_again : (each n most set : ℕ) (star : Bool) (rest : List ℕ) → IsField each n most set star → Stops rest → field_at each most (field_text star n set ++ rest) ≡ Some ((set, star), rest)
unfolding field_text
field_again each n most set true rest f stops = field_star each most rest ∙ ap (λ s. Some ((s, true), rest)) (sym (f.all refl))
field_again each n most set false rest f stops =
    let small : most < 60 = omega (arith, f.size, f.bound) in
    let ns : List ℕ = places n 0 set in
    let a = places_ascend n 0 most set (omega (arith, f.bound)) in
    let is : sum_of ns ≡ set = sum_places n 0 set f.fits ∙ omega arith in
    field_list each most set (commas ns ++ rest) rest
    (no_star ns rest most small a (λ e. f.some (sym is ∙ e)))
    (listed_again most set ns rest small a (omega (arith, places_length n 0 set, f.size)) is f.some stops)

space_stops : (bytes : List ℕ) → Stops (32 ∷ bytes)
unfolding after
space_stops bytes = record { ends = refl; over = refl }

end_stops : Stops []
unfolding after
end_stops = record { ends = tt; over = refl }

-- what the rule of a cron says of its sets
record Rule (c : CronSets) : Type 0 where
  minute : IsField 0xfff_ffff_ffff_ffff 60 59 c.minute (c.minute == 0xfff_ffff_ffff_ffff)
  hour : IsField 0xff_ffff 24 23 c.hour (c.hour == 0xff_ffff)
  dom : IsField 0xffff_fffe 32 31 c.dom c.dom_star
  month : IsField 0x1ffe 13 12 c.month (c.month == 0x1ffe)
  dow : IsField 0x7f 7 6 c.dow c.dow_star

set_field : (low each n most set : ℕ) (star : Bool) → is_set low n set ≡ true → n ≤ 60 → n ≡ most + 1 → (star ≡ true → set ≡ each) → IsField each n most set star
unfolding is_set
set_field low each n most set star h size bound all =
    let a = and_parts (nat_lt set (2 ^ n)) _ h in
    let b = and_parts (set % 2 ^ low == 0) (some_below (has set) n) a.1 in
    record {
      size = size;
      bound = bound;
      fits = ltb-true set (2 ^ n) a.0;
      some = λ e. absurd (two (some_below (has set) n) b.1 (ap (λ s. some_below (has s) n) e ∙ none_has n));
      all = all;
    }
  where
    two : (b : Bool) → b ≡ true → b ≡ false → ⊥
    two true p q = cc
    two false p q = cc

starred : (star : Bool) (set each : ℕ) → (not star || (set == each)) ≡ true → star ≡ true → set ≡ each
starred true set each h e = eqb-true set each h
starred false set each h e = absurd cc

rule_of : (c : CronSets) → is_cron c ≡ true → Rule c
unfolding is_cron
rule_of c h =
    let a = and_parts (is_set 0 60 c.minute) _ h in
    let b = and_parts (is_single c.minute 60) _ a.1 in
    let d = and_parts (is_set 0 24 c.hour) _ b.1 in
    let e = and_parts (is_set 1 32 c.dom) _ d.1 in
    let f = and_parts (is_set 1 13 c.month) _ e.1 in
    let g = and_parts (is_set 0 7 c.dow) _ f.1 in
    let i = and_parts (not c.dom_star || (c.dom == 0xffff_fffe)) _ g.1 in
    let j = and_parts (not c.dow_star || (c.dow == 0x7f)) _ i.1 in
    record {
      minute = set_field 0 0xfff_ffff_ffff_ffff 60 59 c.minute _ a.0 (omega arith) refl (λ p. eqb-true c.minute 0xfff_ffff_ffff_ffff p);
      hour = set_field 0 0xff_ffff 24 23 c.hour _ d.0 (omega arith) refl (λ p. eqb-true c.hour 0xff_ffff p);
      dom = set_field 1 0xffff_fffe 32 31 c.dom c.dom_star e.0 (omega arith) refl (starred c.dom_star c.dom 0xffff_fffe i.0);
      month = set_field 1 0x1ffe 13 12 c.month _ f.0 (omega arith) refl (λ p. eqb-true c.month 0x1ffe p);
      dow = set_field 0 0x7f 7 6 c.dow c.dow_star g.0 (omega arith) refl (starred c.dow_star c.dow 0x7f j.0);
    }

fields_regrouped : (a b c d x : List ℕ) → a ++ (32 ∷ (b ++ (32 ∷ (c ++ (32 ∷ (d ++ (32 ∷ x))))))) ≡ a ++ (32 ∷ (b ++ (32 ∷ (c ++ (32 ∷ (d ++ (32 ∷ (x ++ []))))))))
fields_regrouped a b c d x = ap (λ y. a ++ (32 ∷ (b ++ (32 ∷ (c ++ (32 ∷ (d ++ (32 ∷ y)))))))) (sym (append-nil x))

fields_again : (c : CronSets) → Rule c → fields_in (fields_text c) ≡ Some c
unfolding fields_in fields_at then_at fields_text after
fields_again c rule =
    let m : List ℕ = field_text (c.minute == 0xfff_ffff_ffff_ffff) 60 c.minute in
    let h : List ℕ = field_text (c.hour == 0xff_ffff) 24 c.hour in
    let d : List ℕ = field_text c.dom_star 32 c.dom in
    let n : List ℕ = field_text (c.month == 0x1ffe) 13 c.month in
    let w : List ℕ = field_text c.dow_star 7 c.dow in
    rw (
      fields_regrouped m h d n w,
      field_again 0xfff_ffff_ffff_ffff 60 59 c.minute _ (32 ∷ (h ++ (32 ∷ (d ++ (32 ∷ (n ++ (32 ∷ (w ++ [])))))))) rule.minute (space_stops _),
      field_again 0xff_ffff 24 23 c.hour _ (32 ∷ (d ++ (32 ∷ (n ++ (32 ∷ (w ++ [])))))) rule.hour (space_stops _),
      field_again 0xffff_fffe 32 31 c.dom c.dom_star (32 ∷ (n ++ (32 ∷ (w ++ [])))) rule.dom (space_stops _),
      field_again 0x1ffe 13 12 c.month _ (32 ∷ (w ++ [])) rule.month (space_stops _),
      field_again 0x7f 7 6 c.dow c.dow_star [] rule.dow end_stops,
    ) refl

behind_long : (low most : ℕ) (ns : List ℕ) → most < 60 → Ascends low most ns → length (behind_commas ns) ≤ 3 * length ns
unfolding behind_commas
behind_long low most [] small a = omega arith
behind_long low most (n ∷ ns) small a =
    let two = length-decimal-le 2 n (omega arith) (omega (arith, a.1)) (omega (arith, a.1)) in
    omega (arith, length-append (decimal n) (behind_commas ns), behind_long (n + 1) most ns small a.2)

commas_long : (low most : ℕ) (ns : List ℕ) → most < 60 → Ascends low most ns → length (commas ns) ≤ 3 * length ns
unfolding commas
commas_long low most [] small a = omega arith
commas_long low most (n ∷ ns) small a =
    let two = length-decimal-le 2 n (omega arith) (omega (arith, a.1)) (omega (arith, a.1)) in
    omega (arith, length-append (decimal n) (behind_commas ns), behind_long (n + 1) most ns small a.2)

field_long : (each n most set : ℕ) (star : Bool) → IsField each n most set star → length (field_text star n set) ≤ 180
unfolding field_text
field_long each n most set true f = omega arith
field_long each n most set false f =
    omega (arith, f.size, commas_long 0 most (places n 0 set) (omega (arith, f.size, f.bound)) (places_ascend n 0 most set (omega (arith, f.bound))), places_length n 0 set)

fields_length : (a b c d x : List ℕ) → length (a ++ (32 ∷ (b ++ (32 ∷ (c ++ (32 ∷ (d ++ (32 ∷ x)))))))) ≡ length a + length b + length c + length d + length x + 4
fields_length a b c d x =
    omega (arith, length-append a (32 ∷ (b ++ (32 ∷ (c ++ (32 ∷ (d ++ (32 ∷ x))))))), length-append b (32 ∷ (c ++ (32 ∷ (d ++ (32 ∷ x))))), length-append c (32 ∷ (d ++ (32 ∷ x))), length-append d (32 ∷ x))

fields_long : (c : CronSets) → Rule c → length (fields_text c) < 2 ^ 64
unfolding fields_text
fields_long c rule =
    let long = fields_length (field_text (c.minute == 0xfff_ffff_ffff_ffff) 60 c.minute) (field_text (c.hour == 0xff_ffff) 24 c.hour) (field_text c.dom_star 32 c.dom) (field_text (c.month == 0x1ffe) 13 c.month) (field_text c.dow_star 7 c.dow) in
    omega (arith, long, field_long _ _ _ _ _ rule.minute, field_long _ _ _ _ _ rule.hour, field_long _ _ _ _ _ rule.dom, field_long _ _ _ _ _ rule.month, field_long _ _ _ _ _ rule.dow)

pub cron_again : (c : CronSets) (rest : List ℕ) → is_cron c ≡ true → cron_at (cron_text c ++ rest) ≡ Some (c, rest)
unfolding cron_at cron_text
cron_again c rest h =
    let rule = rule_of c h in
    rw (text_again (fields_text c) rest (lt-ltb _ _ (fields_long c rule)), fields_again c rule) refl

-- the sets of a cron fit their fields
pub cron_bounds : (c : CronSets) → is_cron c ≡ true → (c.hour < 2 ^ 24) × (c.dom < 2 ^ 32) × (c.month < 2 ^ 13) × (c.dow < 2 ^ 7)
cron_bounds c h = let rule = rule_of c h in (rule.hour.fits, rule.dom.fits, rule.month.fits, rule.dow.fits)

pub below_power : (set low value : ℕ) → set < 2 ^ low → low ≤ value → set < 2 ^ value
below_power set low value lt le =
    let one : 1 ≤ 2 = omega arith in
    let power : 2 ^ low ≤ 2 ^ value = pow-le-pow_right one le in
    omega arith
