-- The models of a plan, and what a book has of them.
use Rattle.std.specs.Prelude.{ℤ, Bool, false, List, [], ◌∷◌, Some, None}
use Rattle.std.specs.List.{list_any}
use Rattle.std.specs.Option.{is_some}
use Rattle.std.specs.declared.option.Option.{Option}
use Rattle.mesh_base_values.specs.declared.times.Bounds.{Bounds}
use Rattle.mesh_base_values.specs.declared.values.Name.{Name}
use Rattle.mesh_base.specs.declared.plans.Entry.{Entry}
use Rattle.mesh_base.specs.declared.snapshots.Node.{Node}
use Rattle.mesh_time.specs.Ranges.{is_held}
use Rattle.mesh_house_book.specs.declared.book.Book.{Book}
use Rattle.mesh_house_book.specs.declared.versions.Version.{Version}
use Rattle.mesh_spec_model.specs.Closures.{Closure, closures}
use Rattle.mesh_house.specs.World.{version_of}
use Rattle.mesh_spec_changes.specs.due.Marks.{same_marks}
use Rattle.mesh_spec_changes.specs.due.Parts.{same_name}

-- a model of a plan: it stands in the project, and its rows stand in an object
pub record Planned : Type 0 where
  pub node : Node
  pub closure : Closure
  pub object : Name

-- each model beside its closure and its entry
abbrev pub planned_by : List Node → List Closure → List Entry → List Planned
planned_by [] cs es = []
planned_by (n ∷ ns) [] es = []
planned_by (n ∷ ns) (c ∷ cs) [] = []
planned_by (n ∷ ns) (c ∷ cs) (e ∷ es) = record { node = n; closure = c; object = e.object } ∷ planned_by ns cs es

-- the models of a plan that has these entries for a project
abbrev pub planned : List Node → List Entry → List Planned
planned nodes entries = planned_by nodes (closures nodes) entries

-- a model of the plan has this object
abbrev pub is_planned : List Planned → Name → Bool
is_planned all object = list_any (λ (p : Planned). same_name p.object object) all

-- what is recorded of an object
abbrev pub ranges_of : Option Version → List Bounds
ranges_of None = []
ranges_of (Some v) = v.ranges

-- the marks that are recorded of an object
abbrev pub marks_of : Option Version → Option (List ℤ)
marks_of None = None
marks_of (Some v) = v.marks

-- an object is recorded as made
abbrev pub is_made : Option Version → Bool
is_made None = false
is_made (Some v) = v.made

-- a unit is recorded of an object
abbrev pub holds : Book → Name → Bounds → Bool
holds b object u = is_held (ranges_of (version_of b object)) u.start u.end

-- marks are recorded of an object
abbrev pub is_marked : Book → Name → Bool
is_marked b object = is_some (marks_of (version_of b object))

-- and they are these
abbrev pub are_marks : Option (List ℤ) → List ℤ → Bool
are_marks None ms = false
are_marks (Some old) ms = same_marks old ms
