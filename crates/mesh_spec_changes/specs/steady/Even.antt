-- Closures whose units lie within one another from model to model.
use Rattle.std.specs.Prelude.{Bool, true, false, not, ◌&&◌}
use Rattle.std.specs.List.{list_any}
use Rattle.mesh_base_values.specs.Kinds.{is_incremental}
use Rattle.mesh_base_values.specs.declared.times.Unit.{Unit as TimeUnit}
use Rattle.mesh_base_values.specs.declared.times.Unit.TheVariants.{Hour, Day}
use Rattle.mesh_base.specs.declared.definitions.Own.{Own}
use Rattle.mesh_spec_model.specs.Closures.{Closure, own_of, parents_of, standing, ancestors}

abbrev pub is_day : TimeUnit → Bool
is_day Hour = false
is_day Day = true

abbrev pub is_hourly : Own → Bool
is_hourly own = is_incremental own.kind && not (is_day own.unit)

abbrev pub is_daily : Own → Bool
is_daily own = is_incremental own.kind && is_day own.unit

-- an hourly model stands on a daily one, which stands on an hourly one
abbrev pub is_uneven : Closure → Bool
is_uneven c = is_hourly (own_of c) && list_any (λ b. is_daily (own_of b) && list_any (λ a. is_hourly (own_of a)) (ancestors (parents_of b))) (ancestors (parents_of c))

-- no model among a closure and its ancestors is so
abbrev pub is_even : Closure → Bool
is_even c = not (list_any is_uneven (standing c))
