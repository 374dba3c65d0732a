-- What a plan has to be for its changes to be made, and what is answered of a plan once they were to be made.
use Rattle.std.specs.Prelude.{◌≡◌, ℕ, ℤ, true, List, Result, Ok, Err, Some}
use Rattle.std.specs.declared.option.Option.{Option}
use Rattle.mesh_base.specs.declared.forgets.Restate.{Restate}
use Rattle.mesh_base.specs.declared.snapshots.Node.{Node}
use Rattle.mesh_time_days.specs.Moments.{IsMoment}
use Rattle.mesh_base.specs.declared.rules.plans.Plan.{Plan}
use Rattle.mesh_base.specs.rules.Proper.{is_proper}
use Rattle.mesh_house_book.specs.declared.book.Book.{Book}
use Rattle.mesh_house.specs.declared.world.Change.{Change}
use Rattle.mesh_house.specs.declared.world.World.{World}
use Rattle.mesh_house.specs.House.{Told}
use Rattle.mesh_spec_changes.specs.Commands.{Command}
use Rattle.mesh_plan.specs.Plans.{IsPlanOf}
use Rattle.mesh_cli_print.specs.declared.printed.refusals.Refusal.{Refusal}
use Rattle.mesh_cli_apply.specs.Applying.{AreOf, IsApplied, IsHeld, IsRan, IsReady}

-- the plan is one of a proper project at a moment, by this book
abbrev pub IsPlanFor : Book → Plan → Type 0
IsPlanFor b p = (nodes : List Node) × (env : List ℕ) × (t : ℤ) × (again : Option Restate) × IsMoment t × (is_proper p.project.nodes ≡ true) × IsPlanOf b nodes env t again p

-- where the house tells its world, that has this book
abbrev pub HasBook : Book → Told → Type 0
HasBook b told = (w : World) → told.world ≡ Some w → w.book ≡ b

-- the changes of a command with this plan, where no source lacks anything
abbrev pub MakesBy : Plan → Command → World → List Change → Type 0
MakesBy p c w list = IsReady p w × AreOf p.moment c w list

-- what `apply` answers of its plan
abbrev pub ApplyTells : Plan → World → Result (List ℕ) Refusal → Type 0
ApplyTells p w (Ok text) = IsApplied p p.env p.moment w text
ApplyTells p w (Err r) = IsHeld p w r

-- what `run` answers of its plan
abbrev pub RunTells : Plan → World → Result (List ℕ) Refusal → Type 0
RunTells p w (Ok text) = IsRan p p.env p.moment w text
RunTells p w (Err r) = IsHeld p w r
