-- Steady and even models, worked out by hand.
use Rattle.std.proofs.Common.{◌≡◌, ℕ, pos, true, false, List, [], ◌∷◌, refl}
use Rattle.std.specs.Prelude.{codes}
use Rattle.std.specs.declared.option.Option.TheVariants.{Some}
use Rattle.mesh_base_values.specs.Crons.{CronSets}
use Rattle.mesh_base_values.specs.declared.kinds.Kind.{Kind}
use Rattle.mesh_base_values.specs.declared.kinds.Kind.TheVariants as kind
use Rattle.mesh_base_values.specs.declared.times.Unit.{Unit as TimeUnit}
use Rattle.mesh_base_values.specs.declared.times.Unit.TheVariants as unit
use Rattle.mesh_base_values.specs.declared.values.Name.{Name}
use Rattle.mesh_base.specs.declared.definitions.Decl.{Decl}
use Rattle.mesh_base.specs.declared.definitions.Defn.TheVariants as defn
use Rattle.mesh_base.specs.declared.definitions.Own.{Own}
use Rattle.mesh_spec_model.specs.Closures.{Closure, Model, Alone, With}
use Rattle.mesh_spec_changes.specs.steady.Even.{is_even}
use Rattle.mesh_spec_changes.specs.steady.Steady.{is_steady}

abbrev every_day : CronSets
every_day = record { minute = 1; hour = 1; dom = 0xffff_fffe; month = 0x1ffe; dow = 0x7f; dom_star = true; dow_star = true }

abbrev shop : List ℕ → Name
shop model = record { schema = codes "shop"; model = model }

abbrev own : List ℕ → Kind → TimeUnit → List Decl → Own
own model kind unit sources = record { name = shop model; kind = kind; cron = every_day; unit = unit; start = Some (pos 0); sources = sources; defn = defn.Sql (record { ctes = []; selects = [] }) }

abbrev orders : Decl
orders = record { name = record { schema = codes "raw"; model = codes "orders" }; columns = []; time = Some (codes "day") }

abbrev by_time : Kind
by_time = kind.Incremental (codes "day") 0

-- a FULL model over a timed source isn't steady; over an incremental model that reads it, it is
a_full_over_a_timed_source : is_steady (Model (own (codes "late") kind.Full unit.Day (orders ∷ [])) Alone) ≡ false
a_full_over_a_timed_source = refl

a_full_over_an_incremental : is_steady (Model (own (codes "totals") kind.Full unit.Day []) (With (Model (own (codes "daily") by_time unit.Day (orders ∷ [])) Alone) Alone)) ≡ true
a_full_over_an_incremental = refl

-- days between hours aren't even
abbrev over : Own → Closure → Closure
over o c = Model o (With c Alone)

abbrev hours : Own
hours = own (codes "hours") by_time unit.Hour []

abbrev days : Own
days = own (codes "days") by_time unit.Day []

hours_over_days : is_even (over hours (Model days Alone)) ≡ true
hours_over_days = refl

hours_over_days_over_hours : is_even (over hours (over days (Model hours Alone))) ≡ false
hours_over_days_over_hours = refl

days_over_hours_over_days : is_even (over days (over hours (Model days Alone))) ≡ true
days_over_hours_over_days = refl
