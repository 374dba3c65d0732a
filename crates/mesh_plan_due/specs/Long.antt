-- Schedules that have too many units.
use Rattle.std.specs.Prelude.{ℕ, suc, ℤ, negsuc, ◌≤ℤ◌, Bool, nat_lt, List, [], ◌∷◌, length, if◌then◌else◌, Some, None}
use Rattle.std.specs.Option.{option_map}
use Rattle.std.specs.declared.option.Option.{Option}
use Rattle.mesh_spec_model.specs.Closures.{Closure}
use Rattle.mesh_spec_model.specs.Horizons.{Clock, schedule}

abbrev pub is_too_long : Clock → Closure → Bool
is_too_long clock c = nat_lt 200_000 (length (schedule clock c))

-- the place of the first of these whose schedule is too long
abbrev pub first_too_long : Clock → List Closure → Option ℕ
first_too_long clock [] = None
first_too_long clock (c ∷ cs) = if is_too_long clock c then Some 0 else option_map suc (first_too_long clock cs)

-- no start is before this second
abbrev pub IsStart : ℤ → Type 0
IsStart s = negsuc 199_999_999_999_999 ≤ℤ s
