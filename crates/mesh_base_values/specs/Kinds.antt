-- What a kind says of time.
use Rattle.std.specs.Prelude.{ℕ, Bool, true, false, List, Some, None}
use Rattle.std.specs.declared.option.Option.{Option}
use Rattle.mesh_base_values.specs.declared.kinds.Kind.{Kind}
use Rattle.mesh_base_values.specs.declared.kinds.Kind.TheVariants.{Incremental}

abbrev pub is_incremental : Kind → Bool
is_incremental (Incremental time lookback) = true
is_incremental other = false

-- the name of the time column, where rows are kept by it
abbrev pub time_column : Kind → Option (List ℕ)
time_column (Incremental time lookback) = Some time
time_column other = None

-- how many units are computed again with each unit behind them
abbrev pub lookback_of : Kind → ℕ
lookback_of (Incremental time lookback) = lookback
lookback_of other = 0
