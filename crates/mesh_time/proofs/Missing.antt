-- Only the first span that ends after a second can hold an interval that begins there.
use Rattle.std.proofs.Common.{IsTrue, ◌↔◌, subst, ℕ, ◌+◌, ◌<◌, ◌≡◌, refl, sym, ◌∙◌, ap, map, filter, not, append-nil, ◌++◌, Bool, true, false, ◌||◌, List, [], ◌∷◌, ℤ, ◌≤ℤ◌, ◌<ℤ◌, arith}
use Rattle.std.specs.List.{list_any, range_with_len}
use Rattle.std.proofs.lemmas.List.FromFn.{filter_of_map_range_with_len_more}
use Rattle.std.specs.Int.Signed.{le_z}
use Rattle.std.proofs.lemmas.Int.{ints, by_lt_z}
use Rattle.std.proofs.lemmas.Bool.{and_right as and_false}
use Rattle.mesh_base_values.specs.declared.times.Bounds.{Bounds}
use Rattle.mesh_base_values.specs.declared.times.Schedule.{Schedule}
use Rattle.mesh_base_values.specs.declared.times.Unit.{Unit as TimeUnit}
use Rattle.mesh_base_values.specs.declared.times.Unit.TheVariants.{Hour, Day}
use Rattle.mesh_base_values.proofs.Tests.{le_true}
use Rattle.mesh_time.specs.Ranges.{Has, is_apart, covers, is_held, unit_size, unit_at}
use Rattle.mesh_time.specs.Edits.{open_after, front_covers}
use Rattle.mesh_time.proofs.Held.{held_tells}
use Rattle.mesh_time.proofs.Apart.{le_false, le_not, ApartAfter, Apart, apart_says, apart_from_after}

pub open_after-open_after : (t u : ℤ) (xs : List Bounds) → u ≤ℤ t → open_after t (open_after u xs) ≡ open_after t xs
open_after-open_after t u [] h = refl
open_after-open_after t u (b ∷ bs) h =
    by_lt_z u b.end
    (λ k. rw (le_false b.end u k) refl)
    (λ k. rw (le_true b.end u k, le_true b.end t (omega (arith, ints))) (open_after-open_after t u bs h))

-- spans that begin after the start hold no interval from there
none_later : (xs : List Bounds) (t start last : ℤ) → ApartAfter t xs → start <ℤ t → list_any (covers start last) xs ≡ false
none_later [] t start last a h = refl
none_later (b ∷ bs) t start last a h =
    rw (le_false b.start start (omega (arith, ints))) (none_later bs b.end start last a.2 (omega (arith, ints)))

or_false : (a b : Bool) → b ≡ false → (a || b) ≡ a
or_false true b h = refl
or_false false b h = h

not_first : (b : Bounds) (start last : ℤ) → b.end ≤ℤ start → start <ℤ last → covers start last b ≡ false
not_first b start last p q = and_false (le_z b.start start) _ (le_false last b.end (omega (arith, ints)))

pub covered_by_front : (xs : List Bounds) (start last : ℤ) → Apart xs → start <ℤ last → list_any (covers start last) xs ≡ front_covers start last (open_after start xs)
covered_by_front [] start last a p = refl
covered_by_front (b ∷ bs) start last a p =
    by_lt_z start b.end
    (λ k. rw (le_false b.end start k) (or_false _ _ (none_later bs b.end start last a.1 k)))
    (λ k. rw (le_true b.end start k, not_first b start last k p) (covered_by_front bs start last (apart_from_after b.end bs a.1) p))

pub held_by_front : (xs : List Bounds) (start last : ℤ) → is_apart xs ≡ true → start <ℤ last → is_held xs start last ≡ front_covers start last (open_after start xs)
held_by_front xs start last a p = rw (le_false last start p) (covered_by_front xs start last (apart_says xs a) p)

-- what the first span that ends after an interval's start says of it, where it has a second
pub front_test : (self inside items rest : List Bounds) (start last : ℤ) (r : Bool) → items ≡ inside → inside ≡ self → is_apart inside ≡ true → le_z last start ≡ false → rest ≡ open_after start items → r ≡ front_covers start last rest → r ≡ is_held self start last
front_test self inside items rest start last r e f a p n h =
    h ∙ ap (front_covers start last) (n ∙ ap (open_after start) (e ∙ f)) ∙ sym (held_by_front self start last (sym (ap is_apart f) ∙ a) (le_not last start p))

-- the same of each second
pub front_tells : (self inside items rest : List Bounds) (start last : ℤ) (r : Bool) → items ≡ inside → inside ≡ self → is_apart inside ≡ true → le_z last start ≡ false → rest ≡ open_after start items → r ≡ front_covers start last rest → IsTrue r ↔ ((t : ℤ) → start ≤ℤ t → t <ℤ last → Has self t)
front_tells self inside items rest start last r e f a p n h =
    let test = front_test self inside items rest start last r e f a p n h in
    let tells = held_tells self start last (sym (ap is_apart f) ∙ a) in
    (λ y. tells.0 (subst IsTrue test y), λ all. subst IsTrue (sym test) (tells.1 all))

size_some : (u : TimeUnit) → 0 < unit_size u
size_some Hour = omega arith
size_some Day = omega arith

unit_proper : (s : Schedule) (k : ℕ) → (unit_at s k).start <ℤ (unit_at s k).end
unit_proper s k = let p = size_some s.unit in omega (arith, ints)

next_unit : (s : Schedule) (k : ℕ) → (unit_at s k).start ≤ℤ (unit_at s (k + 1)).start
next_unit s k = omega (arith, ints)

-- the rest of the spans, after it went on to the first that ends after a unit's start
pub rest_goes_on : (xs rest next : List Bounds) (s : Schedule) (k : ℕ) (unit : Bounds) → unit ≡ unit_at s k → next ≡ open_after unit.start rest → ((t : ℤ) → (unit_at s k).start ≤ℤ t → open_after t rest ≡ open_after t xs) → (t : ℤ) → (unit_at s (k + 1)).start ≤ℤ t → open_after t next ≡ open_after t xs
rest_goes_on xs rest next s k unit u n h t p =
    let low : (unit_at s k).start ≤ℤ t = (let q = next_unit s k in omega (arith, ints)) in
    let at : next ≡ open_after (unit_at s k).start rest = n ∙ ap (λ b. open_after b.start rest) u in
    rw at (open_after-open_after t (unit_at s k).start rest low ∙ h t low)

-- what the first span of the rest says of a unit
pub held_by_rest : (xs rest next : List Bounds) (s : Schedule) (k : ℕ) (unit : Bounds) (r : Bool) → is_apart xs ≡ true → unit ≡ unit_at s k → next ≡ open_after unit.start rest → ((t : ℤ) → (unit_at s k).start ≤ℤ t → open_after t rest ≡ open_after t xs) → r ≡ front_covers unit.start unit.end next → is_held xs (unit_at s k).start (unit_at s k).end ≡ r
held_by_rest xs rest next s k unit r a u n h f =
    let at : next ≡ open_after (unit_at s k).start rest = n ∙ ap (λ b. open_after b.start rest) u in
    let front : r ≡ front_covers (unit_at s k).start (unit_at s k).end next = f ∙ ap (λ b. front_covers b.start b.end next) u in
    let same : next ≡ open_after (unit_at s k).start xs = at ∙ h (unit_at s k).start (omega (arith, ints)) in
    held_by_front xs (unit_at s k).start (unit_at s k).end a (unit_proper s k) ∙ sym (front ∙ ap (front_covers (unit_at s k).start (unit_at s k).end) same)

abbrev pub lacks : List Bounds → Bounds → Bool
lacks xs u = not (is_held xs u.start u.end)

pub more_missing : (xs : List Bounds) (s : Schedule) (k : ℕ) (made : List Bounds) (unit : Bounds) → made ≡ filter (lacks xs) (map (unit_at s) (range_with_len 0 k)) → is_held xs (unit_at s k).start (unit_at s k).end ≡ false → unit ≡ unit_at s k → made ++ unit ∷ [] ≡ filter (lacks xs) (map (unit_at s) (range_with_len 0 (k + 1)))
more_missing xs s k made unit h r u =
    rw (filter_of_map_range_with_len_more (lacks xs) (unit_at s) 0 k k (omega arith), r, h, u) refl

pub none_missing : (xs : List Bounds) (s : Schedule) (k : ℕ) (made : List Bounds) → made ≡ filter (lacks xs) (map (unit_at s) (range_with_len 0 k)) → is_held xs (unit_at s k).start (unit_at s k).end ≡ true → made ≡ filter (lacks xs) (map (unit_at s) (range_with_len 0 (k + 1)))
none_missing xs s k made h r =
    rw (filter_of_map_range_with_len_more (lacks xs) (unit_at s) 0 k k (omega arith), r) (h ∙ sym (append-nil _))
