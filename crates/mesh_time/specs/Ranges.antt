-- Lists of spans: which seconds they have, and which units of a schedule they lack.
use Rattle.std.specs.Prelude.{ℕ, ◌+◌, ◌*◌, ◌/◌, Bool, true, ◌&&◌, ◌||◌, not, List, [], ◌∷◌, ◌⊎◌, map, filter, ℤ, pos, ◌+ℤ◌, ◌≤ℤ◌, ◌<ℤ◌}
use Rattle.std.specs.List.{list_any, range_with_len}
use Rattle.std.specs.Int.{int_gap}
use Rattle.std.specs.Int.Signed.{lt_z, le_z}
use Rattle.mesh_base_values.specs.declared.times.Unit.{Unit as TimeUnit}
use Rattle.mesh_base_values.specs.declared.times.Unit.TheVariants.{Hour, Day}
use Rattle.mesh_base_values.specs.declared.times.Bounds.{Bounds}
use Rattle.mesh_base_values.specs.declared.times.Schedule.{Schedule}

-- a second is at least the start and below the end
abbrev pub IsWithin : ℤ → ℤ → ℤ → Type 0
IsWithin start end t = (start ≤ℤ t) × (t <ℤ end)

-- a second lies in one of the spans
abbrev pub Has : List Bounds → ℤ → Type 0
Has [] t = ⊥
Has (b ∷ bs) t = IsWithin b.start b.end t ⊎ Has bs t

-- none of the spans is empty, the first begins after this second, and each later one after the end of the one before
abbrev pub is_apart_after : ℤ → List Bounds → Bool
is_apart_after t [] = true
is_apart_after t (b ∷ bs) = lt_z t b.start && (lt_z b.start b.end && is_apart_after b.end bs)

-- the spans ascend, none is empty, and no two of them touch
abbrev pub is_apart : List Bounds → Bool
is_apart [] = true
is_apart (b ∷ bs) = lt_z b.start b.end && is_apart_after b.end bs

-- a span has every second from a start to an end
abbrev pub covers : ℤ → ℤ → Bounds → Bool
covers start end b = le_z b.start start && le_z end b.end

-- there is no second from the start to the end, or one of the spans has them all
abbrev pub is_held : List Bounds → ℤ → ℤ → Bool
is_held spans start end = le_z end start || list_any (covers start end) spans

-- how many seconds a unit has
abbrev pub unit_size : TimeUnit → ℕ
unit_size Hour = 3600
unit_size Day = 86400

-- how many units of a schedule end by its end
abbrev pub unit_count : Schedule → ℕ
unit_count s = int_gap s.start s.end / unit_size s.unit

-- the unit that so many others of the schedule stand before
abbrev pub unit_at : Schedule → ℕ → Bounds
unit_at s k = record { start = s.start +ℤ pos (k * unit_size s.unit); end = s.start +ℤ pos ((k + 1) * unit_size s.unit) }

-- the units of a schedule, in order
abbrev pub units : Schedule → List Bounds
units s = map (unit_at s) (range_with_len 0 (unit_count s))

-- the units of a schedule that the spans don't hold, in order
abbrev pub missing_units : List Bounds → Schedule → List Bounds
missing_units spans s = filter (λ u. not (is_held spans u.start u.end)) (units s)
