-- A plan beside the plan of a project's nodes in a book, which knows the closures of its models.
use Rattle.std.specs.Prelude.{◌≡◌, if◌then◌else◌, List}
use Rattle.std.specs.List.{AllByRecursion}
use Rattle.mesh_base.specs.declared.plans.Entry.{Entry}
use Rattle.mesh_base.specs.declared.rules.plans.Plan.{Plan}
use Rattle.mesh_spec_model.specs.Horizons.{Clock}
use Rattle.mesh_house_book.specs.declared.book.Book.{Book}
use Rattle.mesh_house.specs.declared.world.Change.{Change}
use Rattle.mesh_house.specs.World.{version_of}
use Rattle.mesh_spec_changes.specs.due.Dues.{dues}
use Rattle.mesh_spec_changes.specs.due.Plans.{Planned, is_made, planned}
use Rattle.mesh_spec_changes.specs.Changes.{Plan as BookPlan, opens, run_opens}

abbrev pub planned_models : Plan → List Planned
planned_models p = planned p.project.nodes p.entries

abbrev pub as_planned : Plan → BookPlan
as_planned p = record { env = p.env; moment = p.moment; models = planned_models p; forgets = p.forgets }

-- what comes first, in an apply or in a run
abbrev pub opens_of : Plan → List Change
opens_of p = if p.run then run_opens (as_planned p) else opens (as_planned p)

-- what is due and what is made are what a book says
pub record IsOf (clock : Clock) (b : Book) (p : Plan) : Type 0 where
  pub due : p.dues ≡ dues clock b p.forgets (planned_models p)
  pub made : AllByRecursion (λ (e : Entry). e.made ≡ is_made (version_of b e.object)) p.entries
