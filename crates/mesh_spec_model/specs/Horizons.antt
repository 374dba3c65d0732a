-- How far a model's rows go at a moment.
use Rattle.std.specs.Prelude.{ℤ, pos, ◌*ℤ◌, Bool, if◌then◌else◌, List, [], ◌∷◌, ◌++◌, IsTrue}
use Rattle.std.specs.List.{All, fold}
use Rattle.std.specs.Int.{int_min, int_div_euclid}
use Rattle.std.specs.declared.option.Option.{Option}
use Rattle.std.specs.declared.option.Option.TheVariants.{None, Some}
use Rattle.mesh_base_values.specs.declared.times.Unit.{Unit as TimeUnit}
use Rattle.mesh_base_values.specs.declared.times.Bounds.{Bounds}
use Rattle.mesh_base.specs.declared.definitions.Own.{Own}
use Rattle.mesh_base_values.specs.Crons.{CronSets, is_cron}
use Rattle.mesh_base_values.specs.Kinds.{is_incremental}
use Rattle.mesh_time.specs.Ticks.{IsFloor}
use Rattle.mesh_time.specs.Ranges.{unit_size, units}
use Rattle.mesh_spec_model.specs.Closures.{Closure, Closures, Model, Alone, With, own_of, standing}

-- the start of the unit that a second lies in
abbrev pub floored : TimeUnit → ℤ → ℤ
floored unit t = int_div_euclid t (pos (unit_size unit)) *ℤ pos (unit_size unit)

-- the last tick of each cron
abbrev pub Clock : Type 0
Clock = CronSets → ℤ

-- a clock that shows a moment: of every cron that reading can give, the greatest tick that is not above the moment
abbrev pub Shows : Clock → ℤ → Type 0
Shows clock t = (cron : CronSets) → IsTrue (is_cron cron) → IsFloor cron t (clock cron)

-- a model's last tick: the start of the unit that its cron's lies in
abbrev pub last_tick : Clock → Own → ℤ
last_tick clock own = floored own.unit (clock own.cron)

-- each model among a closure and its ancestors has a cron that reading can give
abbrev pub HasCrons : Closure → Type 0
HasCrons c = All (λ s. IsTrue (is_cron (own_of s).cron)) (standing c)

-- a model with a schedule of its own
abbrev pub is_timed : Closure → Bool
is_timed c = is_incremental (own_of c).kind

-- the least of a second and of those of a list
abbrev pub least_of : ℤ → List ℤ → ℤ
least_of t ts = fold int_min t ts

-- a model's horizon, where its incremental ancestors have these: an incremental one goes no further than any of them
abbrev pub horizon_under : Clock → Own → List ℤ → ℤ
horizon_under clock own horizons = if is_incremental own.kind then least_of (last_tick clock own) horizons else last_tick clock own

-- one more horizon, of an incremental model
abbrev pub with_horizon : Clock → Own → List ℤ → List ℤ
with_horizon clock own horizons = if is_incremental own.kind then horizon_under clock own horizons ∷ horizons else horizons

-- the horizons of the incremental models among a closure, or some closures, and their ancestors
abbrev mutual
  pub horizons_from : Clock → Closure → List ℤ
  horizons_from clock (Model own parents) = with_horizon clock own (horizons_of clock parents)

  pub horizons_of : Clock → Closures → List ℤ
  horizons_of clock Alone = []
  horizons_of clock (With c cs) = horizons_from clock c ++ horizons_of clock cs

-- the horizon of a closure
abbrev pub horizon : Clock → Closure → ℤ
horizon clock (Model own parents) = horizon_under clock own (horizons_of clock parents)

-- the units from the first second of a day on that end by a second; without a day there are none
abbrev pub units_from : Option ℤ → TimeUnit → ℤ → List Bounds
units_from None unit last = []
units_from (Some day) unit last = units (record { start = day *ℤ pos 86_400; end = last; unit = unit })

-- the units of a closure's schedule: from its start on, all that end by its horizon
abbrev pub schedule : Clock → Closure → List Bounds
schedule clock c = units_from (own_of c).start (own_of c).unit (horizon clock c)
