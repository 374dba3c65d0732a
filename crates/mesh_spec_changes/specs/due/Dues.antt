-- What of a plan is computed again although it is recorded, and what is due.
use Rattle.std.specs.Prelude.{ℕ, ◌+◌, ℤ, pos, ◌*ℤ◌, ◌+ℤ◌, Bool, true, false, not, ◌&&◌, ◌||◌, if◌then◌else◌, List, [], ◌∷◌, ◌++◌, take, map, Some, None}
use Rattle.std.specs.List.{filter, flat_map, list_any}
use Rattle.std.specs.declared.option.Option.{Option}
use Rattle.std.specs.Int.Signed.{lt_z}
use Rattle.mesh_base_values.specs.declared.kinds.Kind.{Kind}
use Rattle.mesh_base_values.specs.declared.kinds.Kind.TheVariants.{Full, View, Seed, Incremental}
use Rattle.mesh_base_values.specs.declared.times.Bounds.{Bounds}
use Rattle.mesh_base_values.specs.declared.values.Name.{Name}
use Rattle.mesh_base.specs.declared.forgets.Forget.{Forget}
use Rattle.mesh_base.specs.declared.forgets.Forget.TheVariants.{Range, Marks}
use Rattle.mesh_base.specs.declared.forgets.Restate.{Restate}
use Rattle.mesh_base.specs.declared.plans.Due.{Due}
use Rattle.mesh_base.specs.declared.plans.Due.TheVariants.{Whole, Unit as OfUnit}
use Rattle.mesh_house_book.specs.declared.book.Book.{Book}
use Rattle.mesh_spec_model.specs.Closures.{Closure, own_of, standing}
use Rattle.mesh_spec_model.specs.Horizons.{Clock, schedule}
use Rattle.mesh_house.specs.World.{version_of}
use Rattle.mesh_spec_changes.specs.due.Marks.{marks}
use Rattle.mesh_spec_changes.specs.due.Parts.{is_among, same_name, unit_of}
use Rattle.mesh_spec_changes.specs.due.Plans.{Planned, are_marks, holds, is_marked, marks_of}

-- a unit has a second in the days from the first to the last; without days it counts as if it had
abbrev pub touches : Option ℤ → Option ℤ → Bounds → Bool
touches None last u = true
touches (Some first) None u = true
touches (Some first) (Some last) u = lt_z u.start ((last +ℤ pos 1) *ℤ pos 86_400) && lt_z (first *ℤ pos 86_400) u.end

-- a model has that name, or one of its ancestors has
abbrev pub descends : Name → Closure → Bool
descends name c = list_any (λ s. same_name (own_of s).name name) (standing c)

-- a model is named to be computed again, or stands on one that is
abbrev pub restates : Option Restate → Closure → Bool
restates None c = false
restates (Some r) c = descends r.name c

-- a unit shares a day with the days that are computed again; days from first to last, both with them
abbrev pub touches_days : Option Restate → Bounds → Bool
touches_days None u = false
touches_days (Some r) u = touches r.first r.last u

-- restated: a recorded unit of such a model that has a second in the days
abbrev pub is_restated : Book → Option Restate → Planned → Bounds → Bool
is_restated b r p u = restates r p.closure && (touches_days r u && holds b p.object u)

-- a unit isn't recorded, or is restated
abbrev pub is_open : Book → Option Restate → Planned → Bounds → Bool
is_open b r p u = not (holds b p.object u) || is_restated b r p u

-- looked back: a recorded unit that isn't restated, with an open one among so many units after it
abbrev pub is_looked_back : ℕ → Book → Option Restate → Planned → Bounds → List Bounds → Bool
is_looked_back lookback b r p u after = holds b p.object u && (not (is_restated b r p u) && list_any (is_open b r p) (take lookback after))

-- the units of a schedule that are restated or looked back, in order
abbrev pub again_units : ℕ → Book → Option Restate → Planned → List Bounds → List Bounds
again_units lookback b r p [] = []
again_units lookback b r p (u ∷ us) =
    if is_restated b r p u || is_looked_back lookback b r p u us then u ∷ again_units lookback b r p us else again_units lookback b r p us

-- the parts of a model to be computed again, by its kind
abbrev pub again_of : Clock → Book → Option Restate → Planned → Kind → List Forget
again_of clock b r p (Incremental time lookback) = map (unit_of p.object) (again_units lookback b r p (schedule clock p.closure))
again_of clock b r p Full = if restates r p.closure && is_marked b p.object then Marks p.object ∷ [] else []
again_of clock b r p View = []
again_of clock b r p Seed = []

-- the parts of a plan's models to be computed again, model by model
abbrev pub again : Clock → Book → Option Restate → List Planned → List Forget
again clock b r all = flat_map (λ (p : Planned). again_of clock b r p p.node.own.kind) all

-- a unit isn't recorded, or is computed again
abbrev pub is_due_unit : Book → List Forget → Planned → Bounds → Bool
is_due_unit b forgets p u = not (holds b p.object u) || is_among forgets (unit_of p.object u)

-- the due units of a model's schedule, in order
abbrev pub due_units : Clock → Book → List Forget → Planned → List Bounds
due_units clock b forgets p = filter (is_due_unit b forgets p) (schedule clock p.closure)

-- the due parts of a model, by its kind: such units, a table that was computed up to other marks or is computed
-- again, a seed or a view without marks
abbrev pub due_of : Clock → Book → List Forget → Planned → Kind → List Forget
due_of clock b forgets p (Incremental time lookback) = map (unit_of p.object) (due_units clock b forgets p)
due_of clock b forgets p Full = if are_marks (marks_of (version_of b p.object)) (marks clock p.closure) && not (is_among forgets (Marks p.object)) then [] else Marks p.object ∷ []
due_of clock b forgets p View = if is_marked b p.object then [] else Marks p.object ∷ []
due_of clock b forgets p Seed = if is_marked b p.object then [] else Marks p.object ∷ []

-- what is due of a planned model
abbrev pub due : Clock → Book → List Forget → Planned → List Forget
due clock b forgets p = due_of clock b forgets p p.node.own.kind

-- a due part of the model at a place of the plan, as a plan says it
abbrev pub due_at : Clock → ℕ → Planned → Forget → Due
due_at clock place p (Range object start end) = OfUnit place start end
due_at clock place p (Marks object) = Whole place (marks clock p.closure)

-- what is due of the models from a place of the plan on, each with its place, a table with its marks, in plan order
abbrev pub dues_from : ℕ → Clock → Book → List Forget → List Planned → List Due
dues_from place clock b forgets [] = []
dues_from place clock b forgets (p ∷ ps) = map (due_at clock place p) (due clock b forgets p) ++ dues_from (place + 1) clock b forgets ps

-- all that is due of a plan's models, model by model, which are by rank and name
abbrev pub dues : Clock → Book → List Forget → List Planned → List Due
dues clock b forgets all = dues_from 0 clock b forgets all
