-- The types of the values of operators and functions.
use Rattle.std.proofs.Common.{◌≡◌, ℤ, pos, negsuc, zero, suc, ◌+ℤ◌, ◌-ℤ◌, ◌*ℤ◌, neg_ℤ, Bool, true, false, cond, ◌&&◌, Option, Some, None, List, [], ◌∷◌, ◌++◌, map, refl, subst}
use Rattle.std.specs.List.{AllByRecursion as Each, AllZip, list_any, fold, list_all}
use Rattle.std.specs.Option.{unwrap_or}
use Rattle.std.proofs.lemmas.Bool.{and_parts}
use Rattle.std.specs.declared.cmp.Ordering.{Ordering}
use Rattle.mesh_base_values.specs.declared.values.Cell.{Cell}
use Rattle.mesh_base_values.specs.declared.values.Cell.TheVariants.{Null, Int, Text, Date, Bool as Truth}
use Rattle.mesh_base_values.specs.declared.values.ColType.{ColType}
use Rattle.mesh_base_values.specs.declared.values.ColType.TheVariants as type
use Rattle.mesh_base_values.specs.declared.times.Bounds.{Bounds}
use Rattle.mesh_base_values.specs.Types.{same_type}
use Rattle.mesh_base_values.specs.Order.{cell_order}
use Rattle.std.specs.Ordering.{is_lt, is_eq, is_ne, is_le, is_gt, is_ge}
use Rattle.std.specs.Prelude.{int_div, int_rem, unsigned_abs}
use Rattle.std.specs.Int.{int_div_euclid}
use Rattle.mesh_base.specs.declared.expressions.AggKind.TheVariants.{Sum, Min, Max}
use Rattle.mesh_base.specs.declared.expressions.Func.TheVariants as func
use Rattle.mesh_base.specs.declared.expressions.Var.TheVariants.{EndEpoch}
use Rattle.mesh_time_days.specs.casts.Casts.{cast_value, cast_to_text, or_null, number_named, truth_named}
use Rattle.mesh_time_days.specs.casts.Dates.{day_named, is_day_number}
use Rattle.mesh_model_csv.specs.seeds.Fits.{is_of}
use Rattle.mesh_spec_query.specs.Cells.{number, day, plus, minus, product, quotient, remainder, joined, compared, answer, comparison, both, either, opposite, negative, op_value, between, one_of, first_of, chosen, case_value, func_value, is_null, is_true, fits}
use Rattle.mesh_spec_query.specs.Aggregates.{addend, smaller, larger, agg_value, is_number}
use Rattle.mesh_spec_query.specs.Macros.{macro_value, day_of_second, last_second}
use Rattle.mesh_query_grammar.specs.declared.surface.signs.AddSign.{AddSign}
use Rattle.mesh_query_grammar.specs.declared.surface.signs.AddSign.TheVariants as sign
use Rattle.mesh_query_grammar.specs.declared.surface.signs.Cmp.{Cmp}
use Rattle.mesh_query_grammar.specs.declared.surface.signs.Cmp.TheVariants as cmp
use Rattle.mesh_resolve_types.specs.rules.Kinds.{sum_kind, Kind, may_be, are_alike, first_kind, are_one_kind}
use Rattle.mesh_resolve_types.specs.Forms.{sum_op, compare_op}
use Rattle.mesh_law_reading.specs.Typed.{HasKind}

no : false ≡ true → ⊥
no h = cc

one_of_two : (k : ColType) (b : Bool) (x y : Cell) → is_of k x ≡ true → is_of k y ≡ true → is_of k (cond b x y) ≡ true
one_of_two k true x y p q = p
one_of_two k false x y p q = q

number_is : (n : ℤ) → is_of type.Int (number n) ≡ true
number_is n = one_of_two type.Int (fits n) (Int n) Null refl refl

day_is : (n : ℤ) → is_of type.Date (day n) ≡ true
day_is n = one_of_two type.Date (is_day_number n) (Date n) Null refl refl

-- operators over operands of their types
pub sum_of_numbers : (x y : Cell) → is_of type.Int x ≡ true → is_of type.Int y ≡ true → is_of type.Int (plus x y) ≡ true
sum_of_numbers (Int a) (Int b) p q = number_is (a +ℤ b)
sum_of_numbers (Date d) y p q = absurd (no p)
sum_of_numbers x y p q = refl

pub later_day : (x y : Cell) → is_of type.Date x ≡ true → is_of type.Int y ≡ true → is_of type.Date (plus x y) ≡ true
later_day (Date d) (Int n) p q = day_is (d +ℤ n)
later_day (Int a) y p q = absurd (no p)
later_day x y p q = refl

pub difference_of_numbers : (x y : Cell) → is_of type.Int x ≡ true → is_of type.Int y ≡ true → is_of type.Int (minus x y) ≡ true
difference_of_numbers (Int a) (Int b) p q = number_is (a -ℤ b)
difference_of_numbers (Date d) y p q = absurd (no p)
difference_of_numbers x y p q = refl

pub earlier_day : (x y : Cell) → is_of type.Date x ≡ true → is_of type.Int y ≡ true → is_of type.Date (minus x y) ≡ true
earlier_day (Date d) (Int n) p q = day_is (d -ℤ n)
earlier_day (Date d) (Date e) p q = absurd (no q)
earlier_day (Int a) y p q = absurd (no p)
earlier_day x y p q = refl

pub days_between : (x y : Cell) → is_of type.Date x ≡ true → is_of type.Date y ≡ true → is_of type.Int (minus x y) ≡ true
days_between (Date d) (Int n) p q = absurd (no q)
days_between (Int a) y p q = absurd (no p)
days_between x y p q = refl

pub product_is : (x y : Cell) → is_of type.Int (product x y) ≡ true
product_is (Int a) (Int b) = number_is (a *ℤ b)
product_is x y = refl

pub quotient_is : (x y : Cell) → is_of type.Int (quotient x y) ≡ true
quotient_is (Int a) (Int (pos zero)) = refl
quotient_is (Int a) (Int (pos (suc n))) = number_is (int_div a (pos (suc n)))
quotient_is (Int a) (Int (negsuc n)) = number_is (int_div a (negsuc n))
quotient_is x y = refl

pub remainder_is : (x y : Cell) → is_of type.Int (remainder x y) ≡ true
remainder_is (Int a) (Int (pos zero)) = refl
remainder_is (Int a) (Int (pos (suc n))) = number_is (int_rem a (pos (suc n)))
remainder_is (Int a) (Int (negsuc n)) = number_is (int_rem a (negsuc n))
remainder_is x y = refl

pub joined_is : (x y : Cell) → is_of type.Text (joined x y) ≡ true
joined_is (Text a) (Text b) = refl
joined_is x y = refl

answer_is : (test : Ordering → Bool) (o : Option Ordering) → is_of type.Bool (answer test o) ≡ true
answer_is test None = refl
answer_is test (Some o) = refl

pub compared_is : (test : Ordering → Bool) (x y : Cell) → is_of type.Bool (compared test x y) ≡ true
compared_is test x y = answer_is test (comparison x y)

pub both_is : (x y : Cell) → is_of type.Bool (both x y) ≡ true
both_is (Truth a) (Truth b) = refl
both_is (Truth true) Null = refl
both_is (Truth false) Null = refl
both_is Null (Truth true) = refl
both_is Null (Truth false) = refl
both_is x y = refl

pub either_is : (x y : Cell) → is_of type.Bool (either x y) ≡ true
either_is (Truth a) (Truth b) = refl
either_is (Truth true) Null = refl
either_is (Truth false) Null = refl
either_is Null (Truth true) = refl
either_is Null (Truth false) = refl
either_is x y = refl

pub opposite_is : (x : Cell) → is_of type.Bool (opposite x) ≡ true
opposite_is (Truth b) = refl
opposite_is x = refl

pub negative_is : (x : Cell) → is_of type.Int (negative x) ≡ true
negative_is (Int n) = number_is (neg_ℤ n)
negative_is x = refl

pub between_is : (x low high : Cell) → is_of type.Bool (between x low high) ≡ true
between_is x low high = both_is _ _

found_is : (x found : Cell) (cells : List Cell) → is_of type.Bool found ≡ true → is_of type.Bool (fold (λ found c. either found (compared is_eq x c)) found cells) ≡ true
found_is x found [] p = p
found_is x found (c ∷ cs) p = found_is x (either found (compared is_eq x c)) cs (either_is found (compared is_eq x c))

pub one_of_is : (x : Cell) (cells : List Cell) → is_of type.Bool (one_of x cells) ≡ true
one_of_is x cells = found_is x (Truth false) cells refl

-- casts give their type, whatever they are given
or_null_is : {A : Type 0} (k : ColType) (cell : A → Cell) → ((a : A) → is_of k (cell a) ≡ true) → (o : Option A) → is_of k (or_null cell o) ≡ true
or_null_is k cell h None = refl
or_null_is k cell h (Some a) = h a

text_is : (x : Cell) → is_of type.Text (cast_to_text x) ≡ true
text_is Null = refl
text_is (Int n) = refl
text_is (Text t) = refl
text_is (Date d) = refl
text_is (Truth b) = refl

pub cast_is : (k : ColType) (x : Cell) → is_of k (cast_value k x) ≡ true
cast_is type.Int (Text t) = or_null_is type.Int Int (λ n. refl) (number_named t)
cast_is type.Int (Int n) = refl
cast_is type.Int (Truth b) = refl
cast_is type.Int x = refl
cast_is type.Text x = text_is x
cast_is type.Date (Text t) = or_null_is type.Date Date (λ n. refl) (day_named t)
cast_is type.Date (Date d) = refl
cast_is type.Date x = refl
cast_is type.Bool (Text t) = or_null_is type.Bool Truth (λ b. refl) (truth_named t)
cast_is type.Bool (Int n) = refl
cast_is type.Bool (Truth b) = refl
cast_is type.Bool x = refl

-- functions of one argument
pub absolute_is : (x : Cell) → is_of type.Int (func_value func.Abs (x ∷ [])) ≡ true
absolute_is (Int n) = number_is (pos (unsigned_abs n))
absolute_is x = refl

pub length_is : (x : Cell) → is_of type.Int (func_value func.Length (x ∷ [])) ≡ true
length_is (Text t) = refl
length_is x = refl

pub upper_is : (x : Cell) → is_of type.Text (func_value func.Upper (x ∷ [])) ≡ true
upper_is (Text t) = refl
upper_is x = refl

pub lower_is : (x : Cell) → is_of type.Text (func_value func.Lower (x ∷ [])) ≡ true
lower_is (Text t) = refl
lower_is x = refl

-- the ends of an interval
pub day_of_is : (t : ℤ) → is_of type.Date (day_of_second t) ≡ true
day_of_is t = day_is (int_div_euclid t (pos 86_400))

pub last_is : (u : Bounds) → is_of type.Int (macro_value EndEpoch u) ≡ true
last_is u = number_is (last_second u)

pub day_text_is : (t : ℤ) → is_of type.Text (cast_to_text (day_of_second t)) ≡ true
day_text_is t = text_is (day_of_second t)

-- NULL, and one of two, under a type or none
pub null_has : (k : Kind) → HasKind k Null
null_has None = refl
null_has (Some k) = refl

pub one_has : (k : Kind) (b : Bool) (x y : Cell) → HasKind k x → HasKind k y → HasKind k (cond b x y)
one_has k true x y p q = p
one_has k false x y p q = q

-- alternatives
pub nullif_has : (k : Kind) (cells : List Cell) → Each (HasKind k) cells → HasKind k (func_value func.Nullif cells)
nullif_has k [] h = null_has k
nullif_has k (x ∷ []) h = null_has k
nullif_has k (x ∷ y ∷ []) h = one_has k (is_true (compared is_eq x y)) Null x (null_has k) h.0
nullif_has k (x ∷ y ∷ z ∷ zs) h = null_has k

first_has : (k : Kind) (x : Cell) (cells : List Cell) → HasKind k x → Each (HasKind k) cells → HasKind k (fold first_of x cells)
first_has k x [] p h = p
first_has k x (c ∷ cs) p h = first_has k (first_of x c) cs (one_has k (is_null x) c x h.0 p) h.1

pub coalesce_has : (k : Kind) (cells : List Cell) → Each (HasKind k) cells → HasKind k (func_value func.Coalesce cells)
coalesce_has k cells h = first_has k Null cells (null_has k) h

chosen_has : (k : Kind) (so_far : Option Cell) (whens : List (Cell × Cell)) (otherwise : Cell) → HasKind k (unwrap_or so_far otherwise)
    → Each (λ (w : Cell × Cell). HasKind k w.1) whens → HasKind k otherwise → HasKind k (unwrap_or (fold chosen so_far whens) otherwise)
chosen_has k so_far [] otherwise p h o = p
chosen_has k (Some v) (w ∷ ws) otherwise p h o = chosen_has k (Some v) ws otherwise p h.1 o
chosen_has k None (w ∷ ws) otherwise p h o = chosen_has k (chosen None w) ws otherwise (go (is_true w.0)) h.1 o
  where
    go : (b : Bool) → HasKind k (unwrap_or (cond b (Some w.1) None) otherwise)
    go true = h.0
    go false = o

pub case_has : (k : Kind) (whens : List (Cell × Cell)) (otherwise : Cell) → Each (λ (w : Cell × Cell). HasKind k w.1) whens → HasKind k otherwise
    → HasKind k (case_value whens otherwise)
case_has k whens otherwise h o = chosen_has k None whens otherwise o h o

-- aggregates
pub total_is : (cells : List Cell) → is_of type.Int (agg_value Sum cells) ≡ true
total_is cells = one_of_two type.Int (list_any is_number cells) (number (fold (λ sum c. sum +ℤ addend c) (pos 0) cells)) Null
    (number_is (fold (λ sum c. sum +ℤ addend c) (pos 0) cells)) refl

least_has : (k : Kind) (x : Cell) (cells : List Cell) → HasKind k x → Each (HasKind k) cells → HasKind k (fold smaller x cells)
least_has k x [] p h = p
least_has k x (c ∷ cs) p h = least_has k (smaller x c) cs (one_has k (is_null x) c _ h.0 (one_has k (is_null c) x _ p (one_has k (is_lt (cell_order c x)) c x h.0 p))) h.1

greatest_has : (k : Kind) (x : Cell) (cells : List Cell) → HasKind k x → Each (HasKind k) cells → HasKind k (fold larger x cells)
greatest_has k x [] p h = p
greatest_has k x (c ∷ cs) p h = greatest_has k (larger x c) cs (one_has k (is_lt (cell_order x c)) c x h.0 p) h.1

pub min_has : (k : Kind) (cells : List Cell) → Each (HasKind k) cells → HasKind k (agg_value Min cells)
min_has k cells h = least_has k Null cells (null_has k) h

pub max_has : (k : Kind) (cells : List Cell) → Each (HasKind k) cells → HasKind k (agg_value Max cells)
max_has k cells h = greatest_has k Null cells (null_has k) h

-- types that a place takes
pub same_kind : (a b : ColType) → same_type a b ≡ true → a ≡ b
same_kind type.Int type.Int h = refl
same_kind type.Text type.Text h = refl
same_kind type.Date type.Date h = refl
same_kind type.Bool type.Bool h = refl
same_kind a b h = absurd (no h)

pub taken : (wanted : ColType) (k : Kind) (c : Cell) → may_be wanted k ≡ true → HasKind k c → is_of wanted c ≡ true
taken wanted None c m h = rw h refl
taken wanted (Some k) c m h = rw (same_kind wanted k m) h

undecided : (kinds : List Kind) (cells : List Cell) → first_kind kinds ≡ None → AllZip HasKind kinds cells → Each (HasKind None) cells
undecided [] [] e h = tt
undecided [] (c ∷ cs) e h = absurd h
undecided (k ∷ ks) [] e h = absurd h
undecided (None ∷ ks) (c ∷ cs) e h = (h.0, undecided ks cs e h.1)
undecided (Some k ∷ ks) (c ∷ cs) e h = absurd (cc)

decided : (k : ColType) (kinds : List Kind) (cells : List Cell) → list_all (are_alike (Some k)) kinds ≡ true → AllZip HasKind kinds cells → Each (HasKind (Some k)) cells
decided k [] [] a h = tt
decided k [] (c ∷ cs) a h = absurd h
decided k (l ∷ ls) [] a h = absurd h
decided k (l ∷ ls) (c ∷ cs) a h =
    let b = and_parts (may_be k l) (list_all (are_alike (Some k)) ls) a in
    (taken k l c b.0 h.0, decided k ls cs b.1 h.1)

-- where all that are decided are of one type, each value is of it
pub of_one_kind : (kinds : List Kind) (cells : List Cell) → are_one_kind kinds ≡ true → AllZip HasKind kinds cells → Each (HasKind (first_kind kinds)) cells
of_one_kind kinds cells a h = go (first_kind kinds) refl a
  where
    go : (f : Kind) → first_kind kinds ≡ f → list_all (are_alike f) kinds ≡ true → Each (HasKind f) cells
    go None e b = undecided kinds cells e h
    go (Some k) e b = decided k kinds cells b h

each_of_two : {X : Type 0} (P : X → Type 0) (xs : List X) (x : X) → Each P (xs ++ x ∷ []) → Each P xs × P x
each_of_two P [] x h = (tt, h.0)
each_of_two P (y ∷ ys) x h = let r = each_of_two P ys x h.1 in ((h.0, r.0), r.1)

-- a CASE has the type that each of its values has
pub case_of_values : (k : Kind) (whens : List (Cell × Cell)) (otherwise : Cell) → Each (HasKind k) (map (λ (w : Cell × Cell). w.1) whens ++ otherwise ∷ [])
    → HasKind k (case_value whens otherwise)
case_of_values k whens otherwise h =
    let r = each_of_two (HasKind k) (map (λ (w : Cell × Cell). w.1) whens) otherwise h in
    case_has k whens otherwise (go whens r.0) r.1
  where
    go : (ws : List (Cell × Cell)) → Each (HasKind k) (map (λ (w : Cell × Cell). w.1) ws) → Each (λ (w : Cell × Cell). HasKind k w.1) ws
    go [] p = tt
    go (w ∷ ws) p = (p.0, go ws p.1)

-- comparisons
pub comparison_is : (c : Cmp) (x y : Cell) → is_of type.Bool (op_value (compare_op c) x y) ≡ true
comparison_is cmp.Eq x y = compared_is is_eq x y
comparison_is cmp.Ne x y = compared_is is_ne x y
comparison_is cmp.Lt x y = compared_is is_lt x y
comparison_is cmp.Le x y = compared_is is_le x y
comparison_is cmp.Gt x y = compared_is is_gt x y
comparison_is cmp.Ge x y = compared_is is_ge x y

-- a sum has the type that is found for it
kept : (b : Bool) (k kind : ColType) → ◌≡◌ {A = Option ColType} (cond b (Some k) None) (Some kind) → (b ≡ true) × (k ≡ kind)
kept true k kind e = (refl, cc)
kept false k kind e = absurd (cc)

as_numbers : (law : Cell → Cell → Cell) → ((x y : Cell) → is_of type.Int x ≡ true → is_of type.Int y ≡ true → is_of type.Int (law x y) ≡ true)
    → (a b : Kind) (kind : ColType) (x y : Cell)
    → ◌≡◌ {A = Option ColType} (cond (may_be type.Int a && may_be type.Int b) (Some type.Int) None) (Some kind) → HasKind a x → HasKind b y → is_of kind (law x y) ≡ true
as_numbers law is a b kind x y e p q =
    let (both, same) = kept (may_be type.Int a && may_be type.Int b) type.Int kind e in
    let m = and_parts (may_be type.Int a) (may_be type.Int b) both in
    subst (λ k. is_of k (law x y) ≡ true) same (is x y (taken type.Int a x m.0 p) (taken type.Int b y m.1 q))

as_days : (law : Cell → Cell → Cell) (from to : ColType) → ((x y : Cell) → is_of type.Date x ≡ true → is_of from y ≡ true → is_of to (law x y) ≡ true)
    → (b : Kind) (kind : ColType) (x y : Cell)
    → ◌≡◌ {A = Option ColType} (cond (may_be from b) (Some to) None) (Some kind) → is_of type.Date x ≡ true → HasKind b y → is_of kind (law x y) ≡ true
as_days law from to is b kind x y e p q =
    let (m, same) = kept (may_be from b) to kind e in
    subst (λ k. is_of k (law x y) ≡ true) same (is x y p (taken from b y m q))

apart : (a : Kind) (kind : ColType) (x y : Cell) → ◌≡◌ {A = Option ColType} (cond (may_be type.Date a) (Some type.Int) None) (Some kind) → HasKind a x
    → is_of type.Date y ≡ true → is_of kind (minus x y) ≡ true
apart a kind x y e p q =
    let (m, same) = kept (may_be type.Date a) type.Int kind e in
    subst (λ k. is_of k (minus x y) ≡ true) same (days_between x y (taken type.Date a x m p) q)

pub sum_is : (s : AddSign) (a b : Kind) (kind : ColType) (x y : Cell) → sum_kind s a b ≡ Some kind → HasKind a x → HasKind b y → is_of kind (op_value (sum_op s) x y) ≡ true
sum_is sign.Plus (Some type.Date) b kind x y e p q = as_days plus type.Int type.Date later_day b kind x y e p q
sum_is sign.Plus a b kind x y e p q = as_numbers plus sum_of_numbers a b kind x y e p q
sum_is sign.Minus a (Some type.Date) kind x y e p q = apart a kind x y e p q
sum_is sign.Minus (Some type.Date) b kind x y e p q = as_days minus type.Int type.Date earlier_day b kind x y e p q
sum_is sign.Minus a b kind x y e p q = as_numbers minus difference_of_numbers a b kind x y e p q
