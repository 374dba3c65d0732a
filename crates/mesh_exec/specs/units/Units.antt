-- Units of the calendar, and intervals that have them.
use Rattle.std.specs.Prelude.{◌≡◌, ℤ, pos, negsuc, ◌<ℤ◌, ◌≤ℤ◌, List, [], ◌∷◌}
use Rattle.jiff_core.specs.Calendar.{IsBetween}
use Rattle.mesh_base_values.specs.declared.times.Bounds.{Bounds}

-- a second of the days from 0001-01-01 to 9999-12-31
abbrev pub IsInDays : ℤ → Type 0
IsInDays t = IsBetween (negsuc 62_135_596_799) (pos 253_402_300_799) t

-- an interval that begins below its end, both in those days
abbrev pub IsUnit : Bounds → Type 0
IsUnit u = (u.start <ℤ u.end) × IsInDays u.start × IsInDays u.end

abbrev pub AreUnits : List Bounds → Type 0
AreUnits [] = Unit {0}
AreUnits (u ∷ us) = IsUnit u × AreUnits us

-- an interval has all seconds of another
abbrev pub IsPartOf : Bounds → Bounds → Type 0
IsPartOf u w = (w.start ≤ℤ u.start) × (u.end ≤ℤ w.end)

-- each one behind a unit begins where the one before it ends
abbrev pub Adjoin : Bounds → List Bounds → Type 0
Adjoin u [] = Unit {0}
Adjoin u (v ∷ vs) = (u.end ≡ v.start) × Adjoin v vs

-- the end of the last of them
abbrev pub end_of : Bounds → List Bounds → ℤ
end_of u [] = u.end
end_of u (v ∷ vs) = end_of v vs

-- the interval from the start of the first to the end of the last
abbrev pub run_of : Bounds → List Bounds → Bounds
run_of u us = record { start = u.start; end = end_of u us }
