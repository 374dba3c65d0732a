-- The models of a project by name, and the marks of one of them.
use Rattle.std.specs.Prelude.{◌≡◌, ℕ, ℤ, pos, Bool, true, false, ◌&&◌, ◌||◌, nat_eq, slice_index_or, List, map, Some, None}
use Rattle.std.specs.List.{filter, slice_get}
use Rattle.std.specs.declared.option.Option.{Option}
use Rattle.mesh_list.specs.Keyed.{ascends, found}
use Rattle.mesh_base_values.specs.Names.{name_cmp}
use Rattle.mesh_base_values.specs.declared.values.Name.{Name}
use Rattle.mesh_base.specs.declared.snapshots.Node.{Node}
use Rattle.mesh_base.specs.rules.Proper.{has_node}
use Rattle.mesh_spec_changes.specs.due.Marks.{is_computed}
use Rattle.mesh_plan_due.specs.declared.marks.Spot.{Spot}
use Rattle.mesh_plan_due.specs.Lineages.{has_bit}

abbrev pub Entry : Type 0
Entry = Name × Spot

abbrev pub entry_name : Entry → Name
entry_name e = e.0

abbrev pub entry_spot : Entry → Spot
entry_spot e = e.1

abbrev pub spots_in : List Entry → List Spot
spots_in es = map entry_spot es

-- where the model of a name stands among all, and what is known of it; or none of these has the name
abbrev pub IsSpotOf : List Node → List Node → List ℤ → Name → Option Entry → Type 0
IsSpotOf all some hs name None = has_node some name ≡ false
IsSpotOf all some hs name (Some e) =
    (n : Node) × (slice_get all e.1.place ≡ Some n) × (n.own.name ≡ name) × (e.0 ≡ name) × (e.1.computed ≡ is_computed n.own.kind) × (e.1.horizon ≡ slice_index_or hs e.1.place (pos 0))

-- these are some of the models, by name
pub record HaveSpots (all some : List Node) (hs : List ℤ) (es : List Entry) : Type 0 where
  pub ascending : ascends name_cmp entry_name es ≡ true
  pub each : (name : Name) → IsSpotOf all some hs name (found name_cmp entry_name name es)

abbrev pub AreSpots : List Node → List ℤ → List Spot → Type 0
AreSpots nodes hs spots = (es : List Entry) × HaveSpots nodes nodes hs es × (spots ≡ spots_in es)

-- the model at a place counts another one: it is itself, or stands below it and has a computed table
abbrev pub counts : List ℕ → ℕ → Spot → Bool
counts row place s = has_bit row s.place && (nat_eq s.place place || s.computed)

abbrev pub row_marks : List Spot → List ℕ → ℕ → List ℤ
row_marks spots row place = map (λ (s : Spot). s.horizon) (filter (counts row place) spots)
