-- No row lies in two units of a schedule.
use Rattle.std.proofs.Common.{◌≡◌, ℕ, zero, suc, ◌+◌, ◌<◌, ℤ, pos, ◌*ℤ◌, Bool, true, false, List, map, refl, arith}
use Rattle.std.specs.List.{range_with_len}
use Rattle.std.specs.declared.option.Option.{Option}
use Rattle.std.specs.declared.option.Option.TheVariants.{None, Some}
use Rattle.mesh_base_values.specs.declared.times.Bounds.{Bounds}
use Rattle.mesh_base_values.specs.declared.times.Schedule.{Schedule}
use Rattle.mesh_base_values.specs.declared.times.Unit.{Unit as TimeUnit}
use Rattle.mesh_base_values.specs.declared.values.Cell.{Cell}
use Rattle.mesh_base_values.specs.declared.values.Column.{Column}
use Rattle.mesh_time.specs.Ranges.{unit_at, unit_count}
use Rattle.mesh_spec_model.specs.Closures.{Closure, own_of}
use Rattle.mesh_spec_model.specs.Horizons.{Clock, schedule, horizon, units_from}
use Rattle.mesh_time_days.specs.seconds.Times.{lies_in}
use Rattle.mesh_spec_model.proofs.Cut.{in_one}
use Rattle.mesh_law_query.proofs.Lists.{Each}
use Rattle.mesh_spec_promise.proofs.Joined.{AreApart}

module _ (columns : List Column) (time : List ℕ) where
  abbrev lies : Bounds → List Cell → Bool
  lies u row = lies_in columns time u row

  module _ (s : Schedule) where
    other : (i j : ℕ) → i < j → (row : List Cell) → lies (unit_at s j) row ≡ true → lies (unit_at s i) row ≡ false
    other i j l row e = go (lies (unit_at s i) row) refl
      where
        go : (b : Bool) → lies (unit_at s i) row ≡ b → b ≡ false
        go false f = refl
        go true f = let same : i ≡ j = in_one columns time s i j row f e in absurd (omega arith)

    later : (i j n : ℕ) → i < j → Each (λ v. (row : List Cell) → lies v row ≡ true → lies (unit_at s i) row ≡ false) (map (unit_at s) (range_with_len j n))
    later i j zero l = tt
    later i j (suc n) l = (other i j l, later i (j + 1) n (omega arith))

    apart : (i n : ℕ) → AreApart lies (map (unit_at s) (range_with_len i n))
    apart i zero = tt
    apart i (suc n) = (later i (i + 1) n (omega arith), apart (i + 1) n)

  from_apart : (start : Option ℤ) (unit : TimeUnit) (last : ℤ) → AreApart lies (units_from start unit last)
  from_apart None unit last = tt
  from_apart (Some day) unit last = let s : Schedule = record { start = day *ℤ pos 86_400; end = last; unit = unit } in apart s 0 (unit_count s)

  pub units_apart : (clock : Clock) (c : Closure) → AreApart lies (schedule clock c)
  units_apart clock c = from_apart (own_of c).start (own_of c).unit (horizon clock c)
