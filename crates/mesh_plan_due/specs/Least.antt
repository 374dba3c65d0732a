-- The least of some seconds, and what those that stand on a model need to know of its horizon.
use Rattle.std.specs.Prelude.{ℕ, ℤ, pos, ◌≤ℤ◌, Bool, List, [], ◌∷◌, if◌then◌else◌, Some, None}
use Rattle.std.specs.Int.{int_min}
use Rattle.std.specs.List.{flat_map, slice_get}
use Rattle.std.specs.Option.{option_to_list}
use Rattle.std.specs.declared.option.Option.{Option}
use Rattle.mesh_spec_model.specs.Closures.{Closure}
use Rattle.mesh_spec_model.specs.Horizons.{Clock, horizons_from}

-- no horizon is above the last moment
abbrev pub IsHorizon : ℤ → Type 0
IsHorizon h = h ≤ℤ pos 253_402_300_799

-- the lesser of two seconds, where there are both
abbrev pub lesser : Option ℤ → Option ℤ → Option ℤ
lesser None b = b
lesser (Some x) None = Some x
lesser (Some x) (Some y) = Some (int_min x y)

-- the least of some seconds
abbrev pub least : List ℤ → Option ℤ
least [] = None
least (t ∷ ts) = lesser (Some t) (least ts)

-- the least horizon of the incremental models among a closure and its ancestors
abbrev pub timed : Clock → Closure → Option ℤ
timed clock c = least (horizons_from clock c)

abbrev pub least_over : List (Option ℤ) → Option ℤ
least_over [] = None
least_over (t ∷ ts) = lesser t (least_over ts)

-- the least of those at these places
abbrev pub least_at : List (Option ℤ) → List ℕ → Option ℤ
least_at all places = least_over (flat_map (λ i. option_to_list (slice_get all i)) places)

-- a tick, no further than this second, where there is one
abbrev pub bounded : ℤ → Option ℤ → ℤ
bounded tick None = tick
bounded tick (Some second) = int_min tick second

-- a model's horizon and the least of the incremental ones, from its last tick and the least of its ancestors
abbrev pub horizon_over : Bool → ℤ → Option ℤ → ℤ
horizon_over incremental tick second = if incremental then bounded tick second else tick

abbrev pub timed_over : Bool → ℤ → Option ℤ → Option ℤ
timed_over incremental horizon second = if incremental then Some horizon else second
