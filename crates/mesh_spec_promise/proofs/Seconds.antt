-- Units of one schedule that share a second are one unit.
use Rattle.std.proofs.Common.{◌≡◌, ℕ, zero, suc, ◌+◌, ◌*◌, ◌<ℤ◌, ℤ, pos, ◌+ℤ◌, ◌*ℤ◌, Bool, true, false, ◌||◌, List, [], ◌∷◌, map, Some, refl, sym, ◌∙◌, ap, subst, arith}
use Rattle.std.proofs.lemmas.Int.{ints}
use Rattle.std.specs.List.{Contains, list_any, range_with_len}
use Rattle.std.specs.declared.option.Option.{Option}
use Rattle.std.specs.declared.option.Option.TheVariants.{None}
use Rattle.std.proofs.lemmas.Bool.{and_from as and_true}
use Rattle.mesh_base_values.specs.declared.times.Bounds.{Bounds}
use Rattle.mesh_base_values.specs.declared.times.Schedule.{Schedule}
use Rattle.mesh_base_values.specs.declared.times.Unit.{Unit as TimeUnit}
use Rattle.mesh_base_values.specs.declared.times.Unit.TheVariants.{Hour, Day}
use Rattle.mesh_base_values.specs.declared.values.Cell.TheVariants as cell
use Rattle.mesh_base_values.specs.declared.values.ColType.TheVariants as type
use Rattle.mesh_base_values.specs.declared.values.Column.{Column}
use Rattle.mesh_base_values.proofs.Tests.{lt_true, le_true}
use Rattle.mesh_time.specs.Ranges.{IsWithin, unit_at, unit_count, unit_size, units}
use Rattle.mesh_spec_model.specs.Closures.{Closure, own_of}
use Rattle.mesh_spec_model.specs.Horizons.{Clock, horizon, schedule, units_from}
use Rattle.mesh_time_days.specs.seconds.Times.{lies_in}
use Rattle.mesh_spec_model.proofs.Cut.{in_one}

contained_map : {X Y : Type 0} (f : X → Y) (xs : List X) (y : Y) → Contains (map f xs) y → (x : X) × (y ≡ f x)
contained_map f [] y (k, l, e) = absurd (omega (arith, l))
contained_map f (x ∷ xs) y (zero, l, e) = (x, sym e)
contained_map f (x ∷ xs) y (suc k, l, e) = contained_map f xs y (k, omega (arith, l), e)

-- a table of one column, whose cells are seconds
abbrev seconds : List Column
seconds = record { name = []; kind = type.Int } ∷ []

lies_at : (u : Bounds) (t : ℤ) → IsWithin u.start u.end t → lies_in seconds [] u (cell.Int t ∷ []) ≡ true
lies_at u t h = and_true _ _ (le_true u.start t h.0) (lt_true t u.end h.1)

one_place : (s : Schedule) (i j : ℕ) (t : ℤ) → IsWithin (unit_at s i).start (unit_at s i).end t → IsWithin (unit_at s j).start (unit_at s j).end t → i ≡ j
one_place s i j t h k = in_one seconds [] s i j (cell.Int t ∷ []) (lies_at (unit_at s i) t h) (lies_at (unit_at s j) t k)

one_unit : (s : Schedule) (u v : Bounds) → Contains (units s) u → Contains (units s) v → (t : ℤ) → IsWithin u.start u.end t → IsWithin v.start v.end t → u ≡ v
one_unit s u v ku kv t h k =
    let i = contained_map (unit_at s) (range_with_len 0 (unit_count s)) u ku in
    let j = contained_map (unit_at s) (range_with_len 0 (unit_count s)) v kv in
    let same : i.0 ≡ j.0 = one_place s i.0 j.0 t (subst (λ (b : Bounds). IsWithin b.start b.end t) i.1 h) (subst (λ (b : Bounds). IsWithin b.start b.end t) j.1 k) in
    i.1 ∙ ap (unit_at s) same ∙ sym j.1

from_one : (start : Option ℤ) (unit : TimeUnit) (last : ℤ) (u v : Bounds) → Contains (units_from start unit last) u → Contains (units_from start unit last) v → (t : ℤ) → IsWithin u.start u.end t → IsWithin v.start v.end t → u ≡ v
from_one None unit last u v ku kv t h k = absurd (omega (arith, ku.1))
from_one (Some day) unit last u v ku kv t h k = one_unit (record { start = day *ℤ pos 86_400; end = last; unit = unit }) u v ku kv t h k

pub scheduled_once : (clock : Clock) (c : Closure) (u v : Bounds) → Contains (schedule clock c) u → Contains (schedule clock c) v → (t : ℤ) → IsWithin u.start u.end t → IsWithin v.start v.end t → u ≡ v
scheduled_once clock c u v = from_one (own_of c).start (own_of c).unit (horizon clock c) u v

pub any_of : {X : Type 0} (p : X → Bool) (xs : List X) (x : X) → Contains xs x → p x ≡ true → list_any p xs ≡ true
any_of p [] x (k, l, e) h = absurd (omega (arith, l))
any_of p (y ∷ ys) x (zero, l, e) h = first (p y) (ap p e ∙ h)
  where
    first : (b : Bool) → b ≡ true → (b || list_any p ys) ≡ true
    first true f = refl
    first false f = cc
any_of p (y ∷ ys) x (suc k, l, e) h = second (p y) (any_of p ys x (k, omega (arith, l), e) h)
  where
    second : (b : Bool) → list_any p ys ≡ true → (b || list_any p ys) ≡ true
    second true f = refl
    second false f = f

unit_proper : (s : Schedule) (i : ℕ) → (unit_at s i).start <ℤ (unit_at s i).end
unit_proper s i = go s.unit
  where
    go : (unit : TimeUnit) → (s.start +ℤ pos (i * unit_size unit)) <ℤ (s.start +ℤ pos ((i + 1) * unit_size unit))
    go Hour = omega (arith, ints)
    go Day = omega (arith, ints)

from_proper : (start : Option ℤ) (unit : TimeUnit) (last : ℤ) (u : Bounds) → Contains (units_from start unit last) u → u.start <ℤ u.end
from_proper None unit last u k = absurd (omega (arith, k.1))
from_proper (Some day) unit last u k =
    let s : Schedule = record { start = day *ℤ pos 86_400; end = last; unit = unit } in
    let i = contained_map (unit_at s) (range_with_len 0 (unit_count s)) u k in
    subst (λ (b : Bounds). b.start <ℤ b.end) (sym i.1) (unit_proper s i.0)

-- the units of a schedule are not empty
pub scheduled_proper : (clock : Clock) (c : Closure) (u : Bounds) → Contains (schedule clock c) u → u.start <ℤ u.end
scheduled_proper clock c u k = from_proper (own_of c).start (own_of c).unit (horizon clock c) u k
