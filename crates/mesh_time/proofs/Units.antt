-- A schedule has the units that end by its end.
use Rattle.std.proofs.Common.{ℕ, ◌+◌, ◌*◌, ◌/◌, ◌<◌, ◌≤◌, ◌↔◌, ℤ, pos, ◌+ℤ◌, ◌≤ℤ◌, arith}
use Rattle.std.specs.Int.{int_gap}
use Rattle.std.proofs.lemmas.Int.{ints}
use Rattle.mesh_base_values.specs.declared.times.Schedule.{Schedule}
use Rattle.mesh_base_values.specs.declared.times.Unit.{Unit as TimeUnit}
use Rattle.mesh_base_values.specs.declared.times.Unit.TheVariants.{Hour, Day}
use Rattle.mesh_time.specs.Ranges.{unit_size, unit_count, unit_at}

counted : (unit : TimeUnit) (k gap : ℕ) → (k < gap / unit_size unit) ↔ ((k + 1) * unit_size unit ≤ gap)
counted Hour k gap = (λ h. omega arith, λ h. omega arith)
counted Day k gap = (λ h. omega arith, λ h. omega arith)

within_gap : (start last : ℤ) (n : ℕ) → 0 < n → (n ≤ int_gap start last) ↔ ((start +ℤ pos n) ≤ℤ last)
within_gap start last n p = (λ h. grind (arith, ints), λ h. grind (arith, ints))

size_some : (unit : TimeUnit) (k : ℕ) → 0 < (k + 1) * unit_size unit
size_some Hour k = omega arith
size_some Day k = omega arith

pub unit_listed : (s : Schedule) (k : ℕ) → (k < unit_count s) ↔ ((unit_at s k).end ≤ℤ s.end)
unit_listed s k =
    let few = counted s.unit k (int_gap s.start s.end) in
    let low = within_gap s.start s.end ((k + 1) * unit_size s.unit) (size_some s.unit k) in
    (λ h. low.0 (few.0 h), λ h. few.1 (low.1 h))
