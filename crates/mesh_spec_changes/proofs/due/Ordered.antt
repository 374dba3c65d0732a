-- Due units are units of the schedule, each once and in order.
use Rattle.std.proofs.Common.{◌≡◌, ◌↔◌, ℕ, zero, suc, ◌+◌, ◌*◌, ◌<◌, ℤ, pos, ◌+ℤ◌, ◌*ℤ◌, ◌≤ℤ◌, Bool, true, false, cond, List, [], ◌∷◌, map, Some, refl, sym, ◌∙◌, ap, arith}
use Rattle.std.proofs.lemmas.Int.{ints}
use Rattle.std.proofs.lemmas.List.Kept.{AllPairs-cons, AllPairs-filter}
use Rattle.std.proofs.lemmas.List.Elements.{All-nil, All-cons}
use Rattle.std.specs.List.{All, AllPairs, Contains, filter, range_with_len}
use Rattle.std.specs.declared.option.Option.{Option}
use Rattle.std.specs.declared.option.Option.TheVariants.{None}
use Rattle.mesh_base_values.specs.declared.kinds.Kind.TheVariants as kind
use Rattle.mesh_base_values.specs.declared.times.Bounds.{Bounds}
use Rattle.mesh_base_values.specs.declared.times.Schedule.{Schedule}
use Rattle.mesh_base_values.specs.declared.times.Unit.{Unit as TimeUnit}
use Rattle.mesh_base_values.specs.declared.times.Unit.TheVariants.{Hour, Day}
use Rattle.mesh_time.specs.Ranges.{unit_size, unit_at, unit_count}
use Rattle.mesh_base.specs.declared.forgets.Forget.{Forget}
use Rattle.mesh_house_book.specs.declared.book.Book.{Book}
use Rattle.mesh_spec_model.specs.Closures.{own_of}
use Rattle.mesh_spec_model.specs.Horizons.{Clock, horizon, schedule, units_from}
use Rattle.mesh_spec_changes.specs.due.Dues.{due, due_of, due_units, is_due_unit}
use Rattle.mesh_spec_changes.specs.due.Parts.{unit_of}
use Rattle.mesh_spec_changes.specs.due.Plans.{Planned}

pub units_are_due : (clock : Clock) (b : Book) (forgets : List Forget) (p : Planned) (time : List ℕ) (lookback : ℕ) → p.node.own.kind ≡ kind.Incremental time lookback →
    due clock b forgets p ≡ map (unit_of p.object) (due_units clock b forgets p)
units_are_due clock b forgets p time lookback e = ap (due_of clock b forgets p) e

-- what a filter keeps stands in the list and passes
module _ {X : Type 0} (test : X → Bool) where
  further : (y : X) (ys : List X) (x : X) → Contains ys x × (test x ≡ true) → Contains (y ∷ ys) x × (test x ≡ true)
  further y ys x (there, passes) = ((suc there.0, omega (arith, there.1), there.2), passes)

  kept_there : (xs : List X) (x : X) → Contains (filter test xs) x → Contains xs x × (test x ≡ true)
  kept_there [] x (k, l, e) = absurd (omega (arith, l))
  kept_there (y ∷ ys) x h = go (kept_there ys x) (test y) refl h
    where
      go : (Contains (filter test ys) x → Contains ys x × (test x ≡ true)) → (c : Bool) → test y ≡ c → Contains (cond c (y ∷ filter test ys) (filter test ys)) x → Contains (y ∷ ys) x × (test x ≡ true)
      go below false e k = further y ys x (below k)
      go below true e (zero, l, is) = let passes : test x ≡ true = sym (ap test is) ∙ e in ((0, omega arith, is), passes)
      go below true e (suc k, l, is) = further y ys x (below (k, omega (arith, l), is))

  behind_first : (c : Bool) (y : X) (ys : List X) (x : X) → Contains ys x → Contains (cond c (y ∷ ys) ys) x
  behind_first false y ys x m = m
  behind_first true y ys x (i, l, m) = (suc i, omega (arith, l), m)

  kept : (xs : List X) (x : X) → Contains xs x → test x ≡ true → Contains (filter test xs) x
  kept [] x (k, l, e) passes = absurd (omega (arith, l))
  kept (y ∷ ys) x (suc k, l, is) passes = behind_first (test y) y (filter test ys) x (kept ys x (k, omega (arith, l), is) passes)
  kept (y ∷ ys) x (zero, l, is) passes = go (test y) (ap test is ∙ passes)
    where
      go : (c : Bool) → c ≡ true → Contains (cond c (y ∷ filter test ys) (filter test ys)) x
      go true e = (0, omega arith, is)
      go false e = absurd (let wrong : false ≡ true = e in cc)

pub due_iff : (clock : Clock) (b : Book) (forgets : List Forget) (p : Planned) (u : Bounds) → Contains (due_units clock b forgets p) u ↔ (Contains (schedule clock p.closure) u × (is_due_unit b forgets p u ≡ true))
due_iff clock b forgets p u = (kept_there (is_due_unit b forgets p) (schedule clock p.closure) u, λ h. kept (is_due_unit b forgets p) (schedule clock p.closure) u h.0 h.1)

-- a unit ends before the ones behind it begin
abbrev Before : Bounds → Bounds → Type 0
Before u v = u.end ≤ℤ v.start

step_on : (start : ℤ) (unit : TimeUnit) (i j : ℕ) → i < j → (start +ℤ pos ((i + 1) * unit_size unit)) ≤ℤ (start +ℤ pos (j * unit_size unit))
step_on start Hour i j l = omega (arith, ints, l)
step_on start Day i j l = omega (arith, ints, l)

behind : (s : Schedule) (i a n : ℕ) → i < a → All (Before (unit_at s i)) (map (unit_at s) (range_with_len a n))
behind s i a zero l = All-nil (Before (unit_at s i))
behind s i a (suc n) l = All-cons (Before (unit_at s i)) (unit_at s a) (map (unit_at s) (range_with_len (a + 1) n)) (step_on s.start s.unit i a l) (behind s i (a + 1) n (omega (arith, l)))

apart_from : (s : Schedule) (a n : ℕ) → AllPairs Before (map (unit_at s) (range_with_len a n))
apart_from s a zero = λ i j d l k. absurd (omega (arith, k))
apart_from s a (suc n) = AllPairs-cons Before (unit_at s a) (map (unit_at s) (range_with_len (a + 1) n)) (behind s a (a + 1) n (omega arith)) (apart_from s (a + 1) n)

from_apart : (start : Option ℤ) (unit : TimeUnit) (last : ℤ) → AllPairs Before (units_from start unit last)
from_apart None unit last = λ i j d l k. absurd (omega (arith, k))
from_apart (Some day) unit last =
    let s : Schedule = record { start = day *ℤ pos 86_400; end = last; unit = unit } in
    apart_from s 0 (unit_count s)

pub due_in_order : (clock : Clock) (b : Book) (forgets : List Forget) (p : Planned) → AllPairs (λ (u v : Bounds). u.end ≤ℤ v.start) (due_units clock b forgets p)
due_in_order clock b forgets p =
    AllPairs-filter Before (is_due_unit b forgets p) (schedule clock p.closure) (from_apart (own_of p.closure).start (own_of p.closure).unit (horizon clock p.closure))
