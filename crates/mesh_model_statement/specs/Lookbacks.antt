-- How far incremental models look back.
use Rattle.std.specs.Prelude.{Bool, true, nat_le}
use Rattle.std.specs.declared.option.Option.{Option}
use Rattle.std.specs.declared.option.Option.TheVariants.{None, Some}
use Rattle.mesh_base_values.specs.Kinds.{lookback_of}
use Rattle.mesh_query_tokens.specs.bounds.Numbers.{longest_lookback}
use Rattle.mesh_model_statement.specs.declared.kinds.KindText.{KindText}

-- a kind's lookback is at most the longest
abbrev pub is_short : Option KindText → Bool
is_short None = true
is_short (Some k) = nat_le (lookback_of k.kind) longest_lookback
