-- How the units of a schedule stand in what is recorded, and which of them are computed again.
use Rattle.std.specs.Prelude.{ℕ, ◌+◌, ℤ, Bool, true, false, ◌&&◌, if◌then◌else◌, List, [], ◌∷◌, map, min, take, Some, None}
use Rattle.std.specs.List.{list_any, slice_get}
use Rattle.std.specs.Option.{is_some}
use Rattle.std.specs.declared.option.Option.{Option}
use Rattle.mesh_base_values.specs.declared.kinds.Kind.{Kind}
use Rattle.mesh_base_values.specs.declared.kinds.Kind.TheVariants.{Full, View, Seed, Incremental}
use Rattle.mesh_base_values.specs.declared.times.Bounds.{Bounds}
use Rattle.mesh_base_values.specs.declared.values.Name.{Name}
use Rattle.mesh_base.specs.declared.definitions.Own.{Own}
use Rattle.mesh_base.specs.declared.forgets.Forget.{Forget}
use Rattle.mesh_base.specs.declared.forgets.Forget.TheVariants.{Marks}
use Rattle.mesh_base.specs.declared.forgets.Restate.{Restate}
use Rattle.mesh_house_book.specs.declared.versions.Version.{Version}
use Rattle.mesh_time.specs.Ranges.{is_held}
use Rattle.mesh_spec_model.specs.Horizons.{units_from}
use Rattle.mesh_spec_changes.specs.due.Dues.{touches_days}
use Rattle.mesh_spec_changes.specs.due.Parts.{same_name, unit_of}
use Rattle.mesh_spec_changes.specs.due.Plans.{marks_of, ranges_of}
use Rattle.mesh_plan_due.specs.declared.stands.Stand.{Stand}
use Rattle.mesh_plan_due.specs.declared.stands.Stand.TheVariants.{Lacking, Restated, Kept}

-- a model has the name that is to be computed again
abbrev pub is_named : Option Restate → Name → Bool
is_named None name = false
is_named (Some r) name = same_name name r.name

abbrev pub flag_of : Option Bool → Bool
flag_of None = false
flag_of (Some b) = b

-- one of the flags at these places is set
abbrev pub any_at : List Bool → List ℕ → Bool
any_at flags places = list_any (λ i. flag_of (slice_get flags i)) places

-- a unit that is recorded or isn't, of a model that is named or isn't, in the days or not
abbrev pub stand_of : Bool → Bool → Bool → Stand
stand_of false named touched = Lacking
stand_of true named touched = if named && touched then Restated else Kept

abbrev pub stand : Bool → Option Restate → List Bounds → Bounds → Stand
stand named r spans u = stand_of (is_held spans u.start u.end) named (touches_days r u)

-- it is going to be computed
abbrev pub is_open : Stand → Bool
is_open Lacking = true
is_open Restated = true
is_open Kept = false

-- it is computed again: it is restated, or kept with an open one near
abbrev pub is_again : Bool → Stand → Bool
is_again near Lacking = false
is_again near Restated = true
is_again near Kept = near

-- the units that are computed again, by how each stands
abbrev pub again_in : ℕ → List Bounds → List Stand → List Bounds
again_in lookback [] ss = []
again_in lookback (u ∷ us) [] = []
again_in lookback (u ∷ us) (s ∷ ss) =
    if is_again (list_any is_open (take lookback ss)) s then u ∷ again_in lookback us ss else again_in lookback us ss

-- how many units are kept before the first open one, no more than this
abbrev pub clear_before : ℕ → Stand → ℕ → ℕ
clear_before lookback Lacking clear = 0
clear_before lookback Restated clear = 0
clear_before lookback Kept clear = min (clear + 1) lookback

abbrev pub clear_of : ℕ → List Stand → ℕ
clear_of lookback [] = lookback
clear_of lookback (s ∷ ss) = clear_before lookback s (clear_of lookback ss)

-- the units of a schedule that are computed again
abbrev pub units_again : ℕ → Bool → Option Restate → List Bounds → List Bounds → List Bounds
units_again lookback named r spans us = again_in lookback us (map (stand named r spans) us)

-- the parts of a model that are computed again, by its kind
abbrev pub parts_by : Own → Name → ℤ → Bool → Option Restate → Option Version → Kind → List Forget
parts_by own object h named r v (Incremental time lookback) = map (unit_of object) (units_again lookback named r (ranges_of v) (units_from own.start own.unit h))
parts_by own object h named r v Full = if named && is_some (marks_of v) then Marks object ∷ [] else []
parts_by own object h named r v View = []
parts_by own object h named r v Seed = []

abbrev pub parts_again : Own → Name → ℤ → Bool → Option Restate → Option Version → List Forget
parts_again own object h named r v = parts_by own object h named r v own.kind
