-- Counts that never fall.
use Rattle.std.specs.Prelude.{ℕ, ◌+◌, ◌-◌, ◌^◌, ◌≤◌, min, max}

-- a count after so many more, which stands still at its type's end
abbrev pub risen : ℕ → ℕ → ℕ
risen by count = max count (min (count + by) (2 ^ 64 - 1))

-- a count rose, or stands at its type's end
abbrev pub Rose : ℕ → ℕ → Type 0
Rose before now = risen 1 before ≤ now
