-- What is due of a model, from what is known of it.
use Rattle.std.specs.Prelude.{◌≡◌, ℕ, ℤ, Bool, not, ◌&&◌, ◌||◌, if◌then◌else◌, slice_index_or, length, List, [], ◌∷◌, map}
use Rattle.std.specs.BTreeSet.{contains}
use Rattle.std.specs.List.{filter}
use Rattle.std.specs.Option.{is_some}
use Rattle.std.specs.declared.option.Option.{Option}
use Rattle.mesh_base_values.specs.Names.{name_cmp}
use Rattle.mesh_base_values.specs.declared.kinds.Kind.{Kind}
use Rattle.mesh_base_values.specs.declared.kinds.Kind.TheVariants.{Full, Incremental}
use Rattle.mesh_base_values.specs.declared.times.Bounds.{Bounds}
use Rattle.mesh_base_values.specs.declared.values.Name.{Name}
use Rattle.mesh_base.specs.declared.definitions.Own.{Own}
use Rattle.mesh_base.specs.declared.forgets.Forget.{Forget}
use Rattle.mesh_base.specs.declared.forgets.Forget.TheVariants.{Marks}
use Rattle.mesh_base.specs.declared.plans.Due.{Due}
use Rattle.mesh_base.specs.declared.plans.Due.TheVariants.{Whole, Unit as OfUnit}
use Rattle.mesh_base.specs.declared.snapshots.Node.{Node}
use Rattle.mesh_house_book.specs.declared.versions.Version.{Version}
use Rattle.mesh_time.specs.Ranges.{is_held}
use Rattle.mesh_spec_model.specs.Closures.{closures}
use Rattle.mesh_spec_model.specs.Horizons.{units_from}
use Rattle.mesh_spec_changes.specs.due.Parts.{is_among, unit_of}
use Rattle.mesh_spec_changes.specs.due.Plans.{are_marks, marks_of, ranges_of}
use Rattle.mesh_plan_due.specs.declared.due.Sight.{Sight}
use Rattle.mesh_plan_due.specs.Lineages.{HaveLineages}
use Rattle.mesh_plan_due.specs.Marked.{AreSpots, row_marks}
use Rattle.mesh_plan_due.specs.Numbered.{IsNumbering}
use Rattle.mesh_plan_due.specs.Sets.{part_cmp}

abbrev pub unit_due : ℕ → Bounds → Due
unit_due place u = OfUnit place u.start u.end

-- a unit isn't recorded, or is computed again
abbrev pub is_due : List Bounds → (Bounds → Bool) → Bounds → Bool
is_due spans again u = not (is_held spans u.start u.end) || again u

-- all of a table is computed, by its kind
abbrev pub is_whole_due : Bool → Option Version → List ℤ → Kind → Bool
is_whole_due again v ms Full = not (are_marks (marks_of v) ms && not again)
is_whole_due again v ms other = not (is_some (marks_of v))

abbrev pub whole_due : ℕ → List ℤ → Bool → List Due
whole_due place ms is = if is then Whole place ms ∷ [] else []

-- the dues of a model at a place, where these units are computed again, or its table is
abbrev pub dues_by : ℕ → Own → ℤ → Option Version → (Bounds → Bool) → Bool → List ℤ → Kind → List Due
dues_by place own h v units table ms (Incremental time lookback) = map (unit_due place) (filter (is_due (ranges_of v) units) (units_from own.start own.unit h))
dues_by place own h v units table ms other = whole_due place ms (is_whole_due table v ms other)

-- what the dues of each model are found in
pub record IsSight (nodes : List Node) (hs : List ℤ) (parts : List Forget) (s : Sight) : Type 0 where
  pub spots : AreSpots nodes hs s.spots.items
  pub numbers : IsNumbering s.spots.items s.numbers.items
  pub rows : HaveLineages nodes (closures nodes) s.rows.items
  pub long : length s.rows.items ≡ length nodes
  pub units : (object : Name) (u : Bounds) → contains part_cmp s.units (u.start, u.end, object) ≡ is_among parts (unit_of object u)
  pub tables : (object : Name) → contains name_cmp s.tables object ≡ is_among parts (Marks object)

-- the marks of a model, and its dues, as they are found
abbrev pub sight_marks : Sight → ℕ → List ℤ
sight_marks s place = row_marks s.spots.items (slice_index_or s.rows.items place []) place

abbrev pub again_units : Sight → Name → Bounds → Bool
again_units s object u = contains part_cmp s.units (u.start, u.end, object)

abbrev pub sight_dues : Sight → ℕ → Own → Name → ℤ → Option Version → List Due
sight_dues s place own object h v = dues_by place own h v (again_units s object) (contains name_cmp s.tables object) (sight_marks s place) own.kind
