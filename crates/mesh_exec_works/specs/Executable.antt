-- Which plans can be made.
use Rattle.std.specs.Prelude.{◌≡◌, ℕ, ℤ, pos, negsuc, Bool, false, not, ◌&&◌, List, length, IsTrue, Some, None}
use Rattle.std.specs.List.{list_all, slice_get}
use Rattle.std.specs.Ordering.{int_cmp, nat_cmp, ordering_then}
use Rattle.std.specs.Int.Signed.{le_z, lt_z}
use Rattle.std.specs.declared.cmp.Ordering.{Ordering}
use Rattle.std.specs.declared.option.Option.{Option}
use Rattle.mesh_list.specs.Keyed.{ascends}
use Rattle.mesh_base_values.specs.Kinds.{is_incremental}
use Rattle.mesh_base.specs.declared.plans.Due.{Due}
use Rattle.mesh_base.specs.declared.plans.Due.TheVariants.{Whole, Unit}
use Rattle.mesh_base.specs.declared.snapshots.Node.{Node}
use Rattle.mesh_base.specs.declared.rules.plans.Plan.{Plan}
use Rattle.mesh_house_book.specs.WellFormed.{is_moment}

-- the place of a due part's model
abbrev pub place_of : Due → ℕ
place_of (Whole place marks) = place
place_of (Unit place start end) = place

abbrev pub start_of : Due → ℤ
start_of (Whole place marks) = pos 0
start_of (Unit place start end) = start

-- by model, and then by the start of the unit
abbrev pub due_cmp : Due → Due → Ordering
due_cmp a b = ordering_then (nat_cmp (place_of a) (place_of b)) (int_cmp (start_of a) (start_of b))

abbrev pub due_itself : Due → Due
due_itself d = d

-- a second of the days from the year 1 to the year 9999
abbrev pub is_in_days : ℤ → Bool
is_in_days t = le_z (negsuc 62_135_596_799) t && le_z t (pos 253_402_300_799)

-- units are those of incremental models, and begin below their ends; a model of another kind is due as a whole
abbrev pub is_due_of : Option Node → Due → Bool
is_due_of None d = false
is_due_of (Some n) (Whole place marks) = not (is_incremental n.own.kind)
is_due_of (Some n) (Unit place start end) = is_incremental n.own.kind && (lt_z start end && (is_in_days start && is_in_days end))

abbrev pub is_due_in : List Node → Due → Bool
is_due_in nodes d = is_due_of (slice_get nodes (place_of d)) d

-- A plan that can be made: its moment is one, each model has an entry, and what is due stands in the plan's order,
-- each part once, and fits its model.
pub record IsExecutable (p : Plan) : Type 0 where
  pub moment : IsTrue (is_moment p.moment)
  pub entries : length p.entries ≡ length p.project.nodes
  pub order : IsTrue (ascends due_cmp due_itself p.dues)
  pub fit : IsTrue (list_all (is_due_in p.project.nodes) p.dues)
