-- The lists of spans that adding and forgetting make.
use Rattle.std.specs.Prelude.{Bool, true, false, ◌&&◌, List, [], ◌∷◌, ◌++◌, if◌then◌else◌, ℤ, Some, None}
use Rattle.std.specs.declared.option.Option.{Option}
use Rattle.std.specs.List.{flat_map}
use Rattle.std.specs.Int.{int_min, int_max}
use Rattle.std.specs.Int.Signed.{lt_z, le_z}
use Rattle.mesh_base_values.specs.declared.times.Bounds.{Bounds}
use Rattle.mesh_time.specs.Ranges.{covers}

-- the least span that has all of both
abbrev pub hull : Bounds → Bounds → Bounds
hull a b = record { start = int_min a.start b.start; end = int_max a.end b.end }

-- the spans with one more, which has grown by all those that it touches; or as they are
abbrev pub added : Option Bounds → List Bounds → List Bounds
added None spans = spans
added (Some new) [] = new ∷ []
added (Some new) (b ∷ bs) =
    if lt_z b.end new.start then b ∷ added (Some new) bs else
    (if lt_z new.end b.start then new ∷ b ∷ bs else added (Some (hull new b)) bs)

-- the span from a start to an end, if it has a second
abbrev pub filled : ℤ → ℤ → List Bounds
filled start end = if lt_z start end then record { start = start; end = end } ∷ [] else []

-- what a span keeps below and above what is forgotten
abbrev pub pieces : Bounds → Bounds → List Bounds
pieces gone b = filled b.start (int_min b.end gone.start) ++ filled (int_max b.start gone.end) b.end

-- the spans with the seconds from a start to an end
abbrev pub spans_with : ℤ → ℤ → List Bounds → List Bounds
spans_with start end spans = added (Some (record { start = start; end = end })) spans

-- the spans without the seconds from a start to an end
abbrev pub spans_without : ℤ → ℤ → List Bounds → List Bounds
spans_without start end spans = flat_map (pieces (record { start = start; end = end })) spans

-- the spans without the seconds of each of these, one after another; one whose start isn't below its end has none
abbrev pub spans_without_each : List Bounds → List Bounds → List Bounds
spans_without_each [] spans = spans
spans_without_each (b ∷ bs) spans = spans_without_each bs (if lt_z b.start b.end then spans_without b.start b.end spans else spans)

-- each has a second, and none begins below this one or below an earlier one
abbrev pub rises_from : ℤ → List Bounds → Bool
rises_from t [] = true
rises_from t (b ∷ bs) = le_z t b.start && (lt_z b.start b.end && rises_from b.start bs)

-- each has a second, and none begins below an earlier one
abbrev pub rises : List Bounds → Bool
rises [] = true
rises (b ∷ bs) = lt_z b.start b.end && rises_from b.start bs

-- the spans from the first on that ends after a second
abbrev pub open_after : ℤ → List Bounds → List Bounds
open_after t [] = []
open_after t (b ∷ bs) = if le_z b.end t then open_after t bs else b ∷ bs

-- the first span has every second from a start to an end
abbrev pub front_covers : ℤ → ℤ → List Bounds → Bool
front_covers start end [] = false
front_covers start end (b ∷ bs) = covers start end b
