-- Once the models of a plan are made, each of them shows rows, before anything of its environment changes.
use Rattle.std.proofs.Common.{◌≡◌, true, List, [], ◌++◌, Some, ap, IsSome}
use Rattle.std.specs.List.{Contains}
use Rattle.std.specs.Option.{is_some}
use Rattle.mesh_base_values.specs.declared.values.Cell.{Cell}
use Rattle.mesh_house_book.specs.declared.book.Book.{Book}
use Rattle.mesh_spec_model.specs.Horizons.{Clock}
use Rattle.mesh_law_query.proofs.Has.{Has, Has_from}
use Rattle.mesh_house.specs.Step.{run}
use Rattle.mesh_house.specs.declared.world.World.{World}
use Rattle.mesh_spec_changes.specs.shown.Shown.{object_rows}
use Rattle.mesh_spec_changes.specs.due.Parts.{Parts, either}
use Rattle.mesh_spec_changes.specs.due.Plans.{Planned}
use Rattle.mesh_spec_changes.specs.Changes.{Plan, executes, opens}
use Rattle.mesh_spec_changes.specs.Commands.{Apply, allows}
use Rattle.mesh_spec_promise.specs.Histories.{IsMet, met, planned_parts}
use Rattle.mesh_spec_promise.specs.Sound.{Sound}
use Rattle.mesh_law_changes.specs.along.Ready.{IsPlaced}
use Rattle.mesh_law_promise.proofs.InTurn.{each_of}
use Rattle.mesh_law_promise.proofs.Names.{parent_there}
use Rattle.mesh_law_promise.proofs.formed.Applying.{AreExecuted}
use Rattle.mesh_law_promise.proofs.formed.Commands.{applies_state}
use Rattle.mesh_law_promise.proofs.formed.Whole.{shows}

-- where all models of a plan are placed and made, each of them shows rows
pub executed_show : (b : Book) (all : List Planned) (z : Parts) (u : World) → AreExecuted b all z u → (p : Planned) → Has p all → (rows : List (List Cell)) × (object_rows u p.object ≡ Some rows)
executed_show b all z u e = shows all z u e.sound all (λ q i r j. parent_there all q r j) (each_of (IsPlaced all u.book.snapshots) all e.placed) e.made

pub executed_shows : (before after : Clock) (x : Parts) (w : World) (plan : Plan) → IsMet before after w (Apply plan) → allows w (Apply plan) ≡ true → Sound x w
    → (p : Planned) → Contains plan.models p → IsSome (object_rows (run w (opens plan ++ executes after w.book plan.forgets plan.models [] plan.models (run w (opens plan)))) p.object)
executed_shows before after x w plan m allowed sound p h =
    let z : Parts = either (met before after (Apply plan) w x) (planned_parts (Apply plan)) in
    let u : World = run w (opens plan ++ executes after w.book plan.forgets plan.models [] plan.models (run w (opens plan))) in
    let (rows, is) = executed_show w.book plan.models z u (applies_state x w plan before after m allowed sound) p (Has_from plan.models p h) in
    ap is_some is
